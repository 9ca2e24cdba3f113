-- What a text is read as is the history that it is of.
use Rattle.std.proofs.Common.{ℕ, List, Result, Ok, Err, IfOk}
use Rattle.rb_history.specs.Ranges.{IsRightOpening, AreRightEvents}
use Rattle.rb_history.specs.Readings.{Reads, ReadsEach}
use Rattle.rb_history.specs.declared.history.History.{History}
use Rattle.rb_history.specs.declared.text_fault.TextFault.{TextFault}
use Rattle.rb_history.specs.declared.text_fault.TextFault.TheVariants.{At, Memory}
use Rattle.rb_history.proofs.OneTexts.{no_text_of_two}
use Rattle.rb_history.proofs.FaultlessTexts.{no_fault_of_text}

-- Where a text is of a history, or has a fault, each history that it is of was read.
pub reads_each : (text : List ℕ) (result : Result History TextFault)
    → IfOk result (λ history. IsRightOpening history.opening × AreRightEvents history.events) → Reads text result → ReadsEach text result
reads_each text (Ok history) right (version, read) opening events fits suits (other, is_text) =
    let same = no_text_of_two version other history.opening opening history.events events text right.0 right.1 fits suits read is_text in
    (same.1, same.2)
reads_each text (Err (At line reason)) right fault opening events fits suits is_text =
    no_fault_of_text opening events text line reason fits suits is_text fault
reads_each text (Err Memory) right fault opening events fits suits is_text = tt

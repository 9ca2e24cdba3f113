-- How each reason why a text is not a history is printed.
use Rattle.std.specs.Prelude.{ℕ, List, codes}
use Rattle.rb_history.specs.declared.text_fault.TextReason.{TextReason}
use Rattle.rb_history.specs.declared.text_fault.TextReason.TheVariants.{Header, Opening, Line, Many}
use Rattle.rb_history.specs.declared.text_fault.TextReason.TheVariants.{Count, Trailing, End}

abbrev pub text_reason_text : TextReason → List ℕ
text_reason_text Header = codes "header"
text_reason_text Opening = codes "opening"
text_reason_text Line = codes "line"
text_reason_text Many = codes "many"
text_reason_text Count = codes "count"
text_reason_text Trailing = codes "trailing"
text_reason_text End = codes "end"

-- The steps of splitting and folding keep the rule.
use Rattle.std.proofs.Common.{◌≡◌, ℕ, ◌+◌, List, [], ◌∷◌, ◌++◌, refl, ap, arith}
use Rattle.atomic_table.specs.Table.{Splits, Joins}
use Rattle.rb_queue.specs.declared.event.Event.{Event}
use Rattle.rb_kept.specs.Log.{Log}
use Rattle.rb_lock.specs.Records.{times_in, names_of, AreRecords}
use Rattle.rb_lock.specs.Passes.{PassState, all_records}
use Rattle.rb_lock.specs.Views.{idle, cut_short, cut_off, folding, nobody}
use Rattle.rb_lock.specs.Rule.{Fits, Locked}
use Rattle.rb_lock.specs.declared.pass_record.PassRecord.{PassRecord}
use Rattle.rb_lock.specs.declared.stage.Stage.TheVariants.{Drew}
use Rattle.rb_lock.specs.declared.view.View.{View}
use Rattle.rb_lock.proofs.Sums.{times_in-append}
use Rattle.rb_lock.proofs.Beginnings.{prefix_none}
use Rattle.rb_lock.proofs.Halvings.{part_falls}
use Rattle.rb_lock.proofs.LongerHistories.{none_before}
use Rattle.rb_lock.proofs.SharedViews.{cut_in_two, made_one}

-- the view of a pass that has drawn a name
abbrev pub drawing : PassState → ℕ → View
drawing pass name = record (idle pass) { stage = Drew name }

-- a seat that has drawn a name is cut in two, and the new one has the name
pub cuts : {T : Type 0} (id : ℕ) (pass : PassState) (name : ℕ) → Splits (Locked {T = T}) id (drawing pass name) (cut_short (drawing pass name)) (cut_off (drawing pass name))
cuts id pass name s law at =
    let fits = law.fits id (drawing pass name) at in
    cut_in_two s law id (drawing pass name) at (cut_short (drawing pass name)) (cut_off (drawing pass name))
    (λ n. omega (arith, times_in-append n (names_of pass.folded) [], times_in-append n (names_of pass.folded) (name ∷ []))) refl (omega (arith, fits.part))
    (record { capacity = fits.capacity; opening = fits.opening; begins = fits.begins; records = fits.records; noted = fits.noted; stage = tt; part = omega (arith, fits.part) })
    (record {
      capacity = fits.capacity;
      opening = fits.opening;
      begins = fits.begins;
      records = (record { begins = fits.begins; known = none_before pass.seen law.log.history name fits.begins fits.stage.1; all = fits.stage.1 }, tt);
      noted = fits.noted;
      stage = tt;
      part = omega (arith, part_falls (name + 1) law.names (omega (arith, fits.stage.0)));
    })

names_of-append : (xs ys : List PassRecord) → names_of (xs ++ ys) ≡ names_of xs ++ names_of ys
names_of-append [] ys = refl
names_of-append (x ∷ xs) ys = ap (λ (l : List ℕ). x.name ∷ l) (names_of-append xs ys)

AreRecords-append : (history : List Event) (xs ys : List PassRecord) → AreRecords history xs → AreRecords history ys → AreRecords history (xs ++ ys)
AreRecords-append history [] ys none all = all
AreRecords-append history (x ∷ xs) ys (one, rest) all = (one, AreRecords-append history xs ys rest all)

pub spent_fits : (log : Log) (names : ℕ) → Fits log names nobody
spent_fits log names = record { capacity = λ there. absurd there; opening = λ there. absurd there; begins = prefix_none log.history; records = tt; noted = omega arith; stage = tt; part = λ name. refl }

-- the records of one pass follow those of another
pub folds : {T : Type 0} (id other : ℕ) (one two : PassState) → Joins (Locked {T = T}) id (idle one) other (idle two) (folding (idle one) (idle two)) nobody
folds id other one two s law at apart there =
    made_one s law id (idle one) at other (idle two) (folding (idle one) (idle two)) nobody apart there
    (λ n. omega (
      arith,
      times_in-append n (names_of (one.folded ++ all_records two)) [],
      ap (times_in n) (names_of-append one.folded (all_records two)),
      times_in-append n (names_of one.folded) (names_of (all_records two)),
      times_in-append n (names_of one.folded) [],
      times_in-append n (names_of two.folded) [],
    )) refl (omega arith)
    (λ first second. record {
      capacity = first.capacity;
      opening = first.opening;
      begins = first.begins;
      records = (first.records.0, AreRecords-append law.log.history one.folded (all_records two) first.records.1 second.records);
      noted = first.noted;
      stage = tt;
      part = omega (arith, first.part);
    }) (spent_fits law.log law.names)

-- A history that one name's events made longer.
use Rattle.std.proofs.Common.{◌≡◌, ◌≢◌, ℕ, ◌==◌, List, [], ◌∷◌, ◌++◌, refl, ap, sym, subst, ◌∙◌, arith, append_assoc}
use Rattle.std.proofs.lemmas.List.{append-nil}
use Rattle.std.proofs.lemmas.List.Elements.{filter-append}
use mathlib.Core.List.{IsPrefix}
use Rattle.rb_queue.specs.Counts.{events_of}
use Rattle.rb_queue.specs.declared.event.Event.{Event}
use Rattle.rb_lock.specs.Records.{bit, times_in, names_of, AreRecords}
use Rattle.rb_lock.specs.LockSteps.{Grown}
use Rattle.rb_lock.specs.declared.pass_record.PassRecord.{PassRecord}
use Rattle.rb_lock.proofs.Sums.{bit_other}
use Rattle.rb_lock.proofs.Beginnings.{prefix_more, append_same, append_none}

pub events_of-append : (xs ys : List Event) (name : ℕ) → events_of (xs ++ ys) name ≡ events_of xs name ++ events_of ys name
events_of-append xs ys name = filter-append (λ (e : Event). e.seat == name) xs ys

-- a name with no event in a history has none in a beginning of it
pub none_before : (xs ys : List Event) (name : ℕ) → IsPrefix xs ys → events_of ys name ≡ [] → events_of xs name ≡ []
none_before xs ys name p none =
    append_none (events_of xs name) (events_of p.0 name) (sym (events_of-append xs p.0 name) ∙ ap (λ (h : List Event). events_of h name) p.1 ∙ none)

-- a name with the same events in a history and in a beginning of it has them in each list between
pub same_between : (xs ys zs : List Event) (name : ℕ) (mine : List Event) → IsPrefix xs ys → IsPrefix ys zs → events_of xs name ≡ mine → events_of zs name ≡ mine → events_of ys name ≡ mine
same_between xs ys zs name mine p q first last =
    let ours : List Event = events_of xs name in
    let more : List Event = events_of p.0 name in
    let rest : List Event = events_of q.0 name in
    let to_ys : ours ++ more ≡ events_of ys name = sym (events_of-append xs p.0 name) ∙ ap (λ (h : List Event). events_of h name) p.1 in
    let to_zs : events_of ys name ++ rest ≡ events_of zs name = sym (events_of-append ys q.0 name) ∙ ap (λ (h : List Event). events_of h name) q.1 in
    let whole : ours ++ (more ++ rest) ≡ ours ++ [] =
    sym (append_assoc ours more rest) ∙ ap (λ (h : List Event). h ++ rest) to_ys ∙ to_zs ∙ last ∙ sym first ∙ sym (append-nil ours) in
    let none : more ≡ [] = append_none more rest (append_same ours (more ++ rest) [] whole) in
    sym to_ys ∙ ap (λ (h : List Event). ours ++ h) none ∙ append-nil ours ∙ first

-- nothing was added
pub grown_none : (name : ℕ) (found : List Event) → Grown name found found
grown_none name found = record { more = []; is = sym (append-nil found); own = refl; others = λ other apart. refl }

module _ (name : ℕ) (found new : List Event) (grown : Grown name found new) where
  -- another name has the events that it had
  pub others_stay : (n : ℕ) → n ≢ name → events_of new n ≡ events_of found n
  others_stay n other =
      ap (λ (h : List Event). events_of h n) grown.is ∙ events_of-append found grown.more n
      ∙ ap (λ (es : List Event). events_of found n ++ es) (grown.others n other) ∙ append-nil (events_of found n)

  -- what began the history begins it now
  pub begins_stay : (xs : List Event) → IsPrefix xs found → IsPrefix xs new
  begins_stay xs p = subst (λ (h : List Event). IsPrefix xs h) (sym grown.is) (prefix_more xs found grown.more p)

  -- records of other names are records still
  pub records_stay : (records : List PassRecord) → times_in name (names_of records) ≡ 0 → AreRecords found records → AreRecords new records
  records_stay [] none all = tt
  records_stay (one ∷ records) none (first, rest) =
      let apart : bit (one.name == name) ≡ 0 = omega arith in (
        record {
          begins = begins_stay one.seen first.begins;
          known = first.known;
          all = others_stay one.name (bit_other one.name name apart) ∙ first.all;
        },
        records_stay records (omega arith) rest,
      )

-- A free word and one slot with the pair fit the rule; without memory that slot comes back.
use Rattle.std.proofs.Common.{◌≡◌, List, [], ◌∷◌, ◌++◌, sym, ap, subst, ◌∙◌}
use Rattle.std.specs.Prelude.{Option, Some}
use Rattle.atomic_table.specs.Table.{opening}
use Rattle.rb_kept.specs.Log.{Log}
use Rattle.rb_lock.specs.Rule.{Locked, pair_of}
use Rattle.rb_lock.specs.Views.{newcomer}
use Rattle.rb_lock.specs.declared.pair.Pair.{Pair}
use Rattle.rb_lock.proofs.Openings.{opens}
use Rattle.rb_lock.proofs.shared.Shared.open.Goals as goal

pub new-requires : goal.new-requires
new-requires g c =
    let slots = c.push_reserved.new.self.items in
    let touched : slots ≡ Some (pair_of c.touch_room.new.self 1) ∷ [] =
    c.push_reserved.ensures.items
    ∙ ap (λ (l : List (Option (Pair g.row.T.Denot))). l ++ Some (pair_of c.touch_room.new.self 1) ∷ []) c.in-Ok.ensures.items in
    let one : slots ≡ Some (pair_of c.args.kept 1) ∷ [] =
    subst (λ (kept : Log). slots ≡ Some (pair_of {T = g.row.T.Denot} kept 1) ∷ []) c.touch_room.ensures touched in
    subst (λ (start : Log). Locked (opening (0 ∷ []) slots (newcomer start))) (sym (c.of-start.ensures ∙ c.touch_room.ensures))
    (subst (λ (l : List (Option (Pair g.row.T.Denot))). Locked (opening (0 ∷ []) l (newcomer c.args.kept))) (sym one) (opens c.args.kept c.requires.history))

pub only_kept-requires : goal.only_kept-requires
only_kept-requires g c = (
  pair_of c.args.kept 1,
  c.in-Err.ensures.err
      ∙ (c.push_reserved.ensures.items
      ∙ ap (λ (l : List (Option (Pair g.row.T.Denot))). l ++ Some (pair_of c.touch_room.new.self 1) ∷ []) c.in-Ok.ensures.items
      ∙ ap (λ (kept : Log). Some (pair_of {T = g.row.T.Denot} kept 1) ∷ []) c.touch_room.ensures),
)

-- Which element a draft becomes.
use Rattle.std.specs.Prelude.{◌≡◌, unwrap_or}
use Rattle.rb_delayed.specs.declared.element.Element.{Element}
use Rattle.rb_queue.specs.declared.draft.Draft.{Draft}

-- the element has the draft's fields; a missing origin is its own id, and a missing `first` its own expiry
pub record IsDrafted (draft : Draft) (element : Element) : Type 0 where
  pub expiry : element.expiry ≡ draft.expiry
  pub origin : element.origin ≡ unwrap_or draft.origin element.id
  pub first : element.first ≡ unwrap_or draft.first element.expiry
  pub attempt : element.attempt ≡ draft.attempt
  pub payload : element.payload ≡ draft.payload

-- Why an offered element is not linked to what came before: the first of its tests that fails.
use Rattle.std.specs.Prelude.{◌≡◌, ℕ, ◌≤◌, ◌⊎◌, Option, Some, None}
use Rattle.rb_delayed.specs.declared.element.Element.{Element}
use Rattle.rb_retry.specs.Retry.{next_expiry}
use Rattle.rb_retry.specs.declared.policy.Policy.{Policy}
use Rattle.rb_replay.specs.Tests.{Test, NoTest}
use Rattle.rb_replay.specs.Links.{Past, parent_in, CameBefore, Begins}
use Rattle.rb_replay.specs.declared.chain_reason.ChainReason.{ChainReason}
use Rattle.rb_replay.specs.declared.chain_reason.ChainReason.TheVariants.{BadFirst, TooMany, NoParent}
use Rattle.rb_replay.specs.declared.chain_reason.ChainReason.TheVariants.{Payload, Base, Expiry, Twice}

-- the tests of an element that has this parent
abbrev pub FollowTests : Policy → ℕ → Element → Element → (ChainReason → Type 0) → ChainReason → Type 0
FollowTests policy asked element parent others =
    Test (element.payload ≡ parent.payload) Payload
    (Test (element.first ≡ parent.first) Base
    (Test (element.expiry ≡ next_expiry policy.pace parent asked) Expiry others))

-- the test that there is a parent, and then the tests with it
abbrev pub ParentTests : Policy → ℕ → Element → Option Element → (ChainReason → Type 0) → ChainReason → Type 0
ParentTests policy asked element None others reason = reason ≡ NoParent
ParentTests policy asked element (Some parent) others reason = FollowTests policy asked element parent others reason

-- the test of an element that begins a job
abbrev pub BeginTests : Element → ChainReason → Type 0
BeginTests element = Test (Begins element) BadFirst NoTest

-- the tests of an element that continues a job, in their order
abbrev pub GoOnTests : Policy → Past → ℕ → Element → ChainReason → Type 0
GoOnTests policy past asked element =
    Test (element.attempt ≤ policy.attempts) TooMany
    (ParentTests policy asked element (parent_in past element) (Test (¬ CameBefore past element) Twice NoTest))

-- the tests of an offered element
abbrev pub LinkTests : Policy → Past → ℕ → Element → ChainReason → Type 0
LinkTests policy past asked element reason =
    ((element.attempt ≡ 1) × BeginTests element reason)
    ⊎ ((2 ≤ element.attempt) × GoOnTests policy past asked element reason)

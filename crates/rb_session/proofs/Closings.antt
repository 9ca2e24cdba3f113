-- Jobs that fail as a session ends with them.
use Rattle.std.proofs.Common.{◌≡◌, Result, Ok, Err, refl}
use Rattle.std.specs.Prelude.{true, false, is_err}
use Rattle.rb_delayed.specs.declared.element.Element.{Element}
use Rattle.rb_kept.specs.declared.fault.CallFault.{CallFault}
use Rattle.rb_retry.specs.declared.verdict.Verdict.{Verdict}
use Rattle.rb_session.specs.Closing.{lost_by}

-- a refused retry is one that is lost
pub lost_one : (result : Result Verdict (Element × CallFault)) → is_err result ≡ true → lost_by result ≡ 1
lost_one (Ok verdict) failed = absurd (cc)
lost_one (Err refused) failed = refl

pub lost_none : (result : Result Verdict (Element × CallFault)) → is_err result ≡ false → lost_by result ≡ 0
lost_none (Ok verdict) went = refl
lost_none (Err refused) went = absurd (cc)

-- The law is the lemma of `AllServed`, on the terms of visits at any door.
use Rattle.rb_serving.specs.Terms.{terms_of}
use Rattle.rb_serving.proofs.AllServed.{serves_all}
use Rattle.rb_serving.proofs.laws.each_visitor_is_served.Goals as goal

pub returns : goal.returns
returns g c clock policy delivery table =
    serves_all (terms_of g.D.Reader.Read g.D.Writer.Recipient g.D.Gate.Gate g.C.Clock clock policy delivery table)

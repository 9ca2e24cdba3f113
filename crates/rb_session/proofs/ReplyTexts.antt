-- The texts of replies.
use Rattle.std.proofs.Common.{◌≡◌, List, [], ◌∷◌, ◌++◌, refl, sym, ap, ◌∙◌, append_assoc}
use Rattle.rb_protocol.specs.ReplyText.{text_of}
use Rattle.rb_protocol.specs.declared.line_reply.LineReply.{LineReply}
use Rattle.rb_session.specs.Session.{texts_of}

-- one behind the other
pub texts_of-append : (one two : List LineReply) → texts_of (one ++ two) ≡ texts_of one ++ texts_of two
texts_of-append [] two = refl
texts_of-append (reply ∷ one) two = ap (λ t. text_of reply ++ t) (texts_of-append one two)
    ∙ sym (append_assoc (text_of reply) (texts_of one) (texts_of two))

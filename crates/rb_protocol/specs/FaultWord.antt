-- Which word a line that is no request is refused with.
use Rattle.rb_protocol.specs.declared.line_fault.LineFault.{LineFault}
use Rattle.rb_protocol.specs.declared.line_fault.LineFault.TheVariants as faults
use Rattle.rb_protocol.specs.declared.err_word.ErrWord.{ErrWord}
use Rattle.rb_protocol.specs.declared.err_word.ErrWord.TheVariants as words

-- the word for a line that is no request
abbrev pub word_for : LineFault → ErrWord
word_for faults.Line = words.Line
word_for faults.Syntax = words.Syntax
word_for faults.Number = words.Number
word_for faults.Payload = words.Payload

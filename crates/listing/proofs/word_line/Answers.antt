-- What is spelled of a word that comes apart so.
use mathlib.Core.Path.{◌≡◌, sym, ap, ◌∙◌}
use Rattle.std.proofs.Common.{ℕ}
use Rattle.code.specs.Word.{Apart, apart_of}
use Rattle.listing.specs.Listed.{apart_line, word_line}
use Rattle.listing.proofs.word_line.Goals as goal

line-is : (address w : ℕ) (p : Apart) → p ≡ apart_of w → word_line address w ≡ apart_line address p
unfolding word_line
line-is address w p e = ap (apart_line address) (sym e)

pub returns-in-Ok : goal.returns-in-Ok
returns-in-Ok c = c.spelled.ensures.text ∙ sym (line-is _ _ _ c.in-Ok.ensures)

pub returns-in-Err : goal.returns-in-Err
returns-in-Err c = c.new.ensures ∙ sym (line-is _ _ _ c.in-Err.ensures)

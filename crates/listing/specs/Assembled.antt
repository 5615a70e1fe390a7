-- What a text assembles to: "Words: four bytes each, low byte first, from address 0 to the last line's; gaps, also before the first line, are FF00".
use Rattle.std.specs.Prelude.{ℕ, ◌+◌, ◌*◌, ◌-◌, ◌/◌, ◌%◌, ◌&&◌, List, [], ◌∷◌, ◌++◌, Result, Ok, Err, eqb, ltb, length, drop, replicate}
use Rattle.choose.specs.Ranged.{pick}
use Rattle.line.specs.Line.{Line, line_of}
use Rattle.pieces.specs.Parts.{lines_of, pieces_of}
use Rattle.refusals.specs.Refusals.{number_of}
use Rattle.listing.specs.declared.Report.{Report}
use Rattle.listing.specs.declared.TextRefused.{TextRefused}

abbrev pub report_of : ℕ → ℕ → ℕ → Report
report_of answer at n = record { answer = answer; at = at; length = n }

-- the words of a line, the gap before it filled, and of the lines after it; none from a bad line on
abbrev pub worded : ℕ → Line → (ℕ → List ℕ) → List ℕ
worded next (Line.Bad n) after = []
worded next (Line.Word a w) after = replicate (a - next) 0xFF00 ++ w ∷ after (a + 1)

-- the words of lines that begin at the address `next` or later
unfoldable pub words_from : ℕ → List (List ℕ) → List ℕ
words_from next [] = []
words_from next (l ∷ ls) = worded next (line_of next (pieces_of l)) (λ n. words_from n ls)

-- "the first bad line decides": its number of 10, 11, 12 and which line it is
abbrev pub judged : ℕ → Line → (ℕ → Report) → Report
judged line (Line.Bad n) after = report_of n line 0
judged line (Line.Word a w) after = after (a + 1)

-- of lines that are counted from `line` on and begin at the address `next` or later; of good ones, how many bytes they assemble to
unfoldable pub refusal_from : ℕ → ℕ → List (List ℕ) → Report
refusal_from line next [] = report_of 0 0 (4 * next)
refusal_from line next (l ∷ ls) = judged line (line_of next (pieces_of l)) (λ n. refusal_from (line + 1) n ls)

-- "27 comes after all others": what is needed, where there is room for less
abbrev pub roomed : ℕ → Report → Report
roomed room r = pick (eqb r.answer 0 && ltb room r.length) (report_of 27 0 r.length) r

unfoldable pub assembled_of : List ℕ → ℕ → Report
assembled_of text room = roomed room (refusal_from 1 0 (lines_of text))

-- "low byte first"
unfoldable pub bytes_of : List ℕ → List ℕ
bytes_of [] = []
bytes_of (w ∷ ws) = w % 0x100 ∷ w / 0x100 % 0x100 ∷ w / 0x1_0000 % 0x100 ∷ w / 0x100_0000 % 0x100 ∷ bytes_of ws

-- "Every answer but 0 leaves the output as found, and so does an output longer than needed past its end"
abbrev pub written_if : Report → List ℕ → List ℕ → List ℕ
written_if r bs out = pick (eqb r.answer 0) (bs ++ drop (length bs) out) out

unfoldable pub assembled_into : List ℕ → List ℕ → List ℕ
assembled_into text out = written_if (assembled_of text (length out)) (bytes_of (words_from 0 (lines_of text))) out

-- the assembler's answer as it is told: the length, or the number with its line or what is needed
abbrev pub text_report : TextRefused → Report
text_report (TextRefused.Line number why) = report_of (number_of why) number 0
text_report (TextRefused.Room needed) = report_of 27 0 needed

abbrev pub assembled_report : Result ℕ TextRefused → Report
assembled_report (Ok n) = report_of 0 0 n
assembled_report (Err refused) = text_report refused

-- The listing of words that are handed in as bytes: 2, "over 2,048 words, a word of 2^22 or more, or a length that is no multiple of 4; then 6 for the
-- first unlisted word (CAD is listed); then 27".
use Rattle.std.specs.Prelude.{ℕ, suc, ◌/◌, ◌%◌, ◌<◌, ⊤, Bool, ◌&&◌, List, [], ◌∷◌, ◌++◌, Option, Some, None, Result, Ok, Err, map, eqb, ltb, leb, length}
use Rattle.choose.specs.Below.{firsts}
use Rattle.choose.specs.Ranged.{pick}
use Rattle.code.specs.Word.{Apart, apart_of, number_of}
use Rattle.forms.specs.Named.{place_from}
use Rattle.numbers.specs.Numbers.{word_at}
use Rattle.spelling.specs.Spelling.{spelled_of}
use Rattle.listing.specs.Assembled.{report_of, roomed, written_if}
use Rattle.listing.specs.declared.Report.{Report}
use Rattle.listing.specs.declared.WordsRefused.{WordsRefused}

-- the words that are looked at: the whole ones among the first 2,048
abbrev pub word_count : List ℕ → ℕ
word_count s = pick (ltb (length s / 4) 2048) (length s / 4) 2048

abbrev pub words_in : List ℕ → List ℕ
words_in s = firsts (word_at s) 0 (word_count s)

-- where the first word stands that 01 refuses with a number, 2 out of range or 6 unlisted; past their end where there is none
abbrev pub first_with : ℕ → ℕ → List ℕ → ℕ
first_with k i ws = place_from k i (map (λ w. number_of (apart_of w)) ws)

-- a place as the code tells it, none where it is past the end
abbrev pub place_below : ℕ → ℕ → Option ℕ
place_below n place = pick (ltb place n) (Some place) None

-- the line of a word in the fixed spelling; what is no listed word has none
abbrev pub apart_line : ℕ → Apart → List ℕ
apart_line address (Ok f) = spelled_of address f
apart_line address (Err why) = []

unfoldable pub word_line : ℕ → ℕ → List ℕ
word_line address w = apart_line address (apart_of w)

-- "The lister gives one line for each word": the lines of words from an address on
unfoldable pub listing_from : ℕ → List ℕ → List ℕ
listing_from address [] = []
listing_from address (w ∷ ws) = word_line address w ++ listing_from (suc address) ws

abbrev pub text_of : List ℕ → List ℕ
text_of s = listing_from 0 (words_in s)

abbrev pub is_whole : List ℕ → Bool
is_whole s = eqb (length s % 4) 0 && leb (length s) 8192

-- "of 2 the first whole word out of range among the first 2,048, else 2,048, for a length that is no multiple of 4 too"
unfoldable pub listed_of : List ℕ → ℕ → Report
listed_of s room =
    pick (ltb (first_with 2 0 (words_in s)) (word_count s))
    (report_of 2 (first_with 2 0 (words_in s)) 0)
    (pick (is_whole s)
    (pick (ltb (first_with 6 0 (words_in s)) (word_count s))
    (report_of 6 (first_with 6 0 (words_in s)) 0)
    (roomed room (report_of 0 0 (length (text_of s)))))
    (report_of 2 2048 0))

unfoldable pub listed_into : List ℕ → List ℕ → List ℕ
listed_into s out = written_if (listed_of s (length out)) (text_of s) out

-- the lister's answer as it is told: the length, or the number with its address or what is needed
abbrev pub words_report : WordsRefused → Report
words_report (WordsRefused.Word address why) = report_of (number_of (Err why)) address 0
words_report WordsRefused.Length = report_of 2 2048 0
words_report (WordsRefused.Room needed) = report_of 27 0 needed

abbrev pub listed_report : Result ℕ WordsRefused → Report
listed_report (Ok n) = report_of 0 0 n
listed_report (Err refused) = words_report refused

-- "the first whole word .. among the first 2,048": a refusal tells no other word than one that is looked at
abbrev pub IsAmong : List ℕ → WordsRefused → Type 0
IsAmong s (WordsRefused.Word address why) = address < word_count s
IsAmong s WordsRefused.Length = ⊤
IsAmong s (WordsRefused.Room needed) = ⊤

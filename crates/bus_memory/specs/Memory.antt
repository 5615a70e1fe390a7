-- A memory on the bus: the lines that an attempt sees, what its request does to the bytes, and what the memory keeps. 02, L7.
use Rattle.std.specs.Prelude.{ℕ, ◌+◌, ◌-◌, ◌*◌, ◌/◌, ◌%◌, min, Bool, true, false, ◌&&◌, List, [], ◌∷◌, eqb, ltb, leb, length, set}
use Rattle.std.specs.Prelude.{Option, Some, None, is_some, unwrap_or}
use Rattle.choose.specs.Ranged.{pick, ranged}
use Rattle.numbers.specs.Numbers.{pair_at}
use Rattle.state.specs.declared.Sample.{Sample}
use Rattle.bus_memory.specs.declared.Kept.{Kept}

-- "It keeps the address of the last read or write accepted": none yet, or the address; how many attempts are still to see REPLY low; and how many waits of
-- IB, IW, OB and OW have come in a row, counted up to the 32 that 17 asks for
abbrev pub kept_of : Option ℕ → ℕ → ℕ → Kept
kept_of access low waits = record { access = access; low = low; waits = waits }

-- whether there was one, and its address, which is 0 before the first
abbrev pub accessed : Kept → Bool
accessed k = is_some k.access

abbrev pub kept_address : Kept → ℕ
kept_address k = unwrap_or k.access 0

abbrev pub nothing_kept : Kept
nothing_kept = kept_of None 0 0

-- a request's kind and its value
abbrev pub kind_in : ℕ → ℕ
kind_in request = request / 0x1_0000

abbrev pub value_in : ℕ → ℕ
value_in request = request % 0x1_0000

-- R, W, RA, WA and F0-F7, "acknowledges too": 1 read, 2 write, 3 read acknowledge, 4 write acknowledge
unfoldable pub accesses : ℕ → Bool
accesses request = ranged (kind_in request) ((1, false) ∷ (5, true) ∷ []) false

-- the codes of IB and IW, and with them those of OB and OW
unfoldable pub takes_in : ℕ → Bool
takes_in code = ranged code ((0xE0, false) ∷ (0xE4, true) ∷ []) false

unfoldable pub transfers : ℕ → Bool
transfers code = ranged code ((0xE0, false) ∷ (0xE4, true) ∷ (0xFC, false) ∷ (0xFE, true) ∷ []) false

-- "low byte at the even address", "A word access ignores the lowest address bit"
abbrev pub even_of : ℕ → ℕ
even_of address = address / 2 * 2

abbrev pub word_in : List ℕ → ℕ → ℕ
word_in bytes address = pair_at bytes (even_of address)

-- "REPLY falls when SYNC falls; it is low before the first access and beyond the memory", and "so many attempts after an accepted read or write see REPLY low"
unfoldable pub reply_of : Kept → ℕ → Bool → Bool
reply_of k size sync = sync && accessed k && eqb k.low 0 && ltb (kept_address k) size

-- IB and IW see the word at the kept address, "status inputs read the external data". While REPLY is low all see the external data, which none takes: IB and IW
-- wait then
unfoldable pub data_of : List ℕ → ℕ → Bool → ℕ → ℕ → ℕ
data_of bytes address replies code external = pick (replies && takes_in code) (word_in bytes address) external

-- the external lines with other REPLY and data
abbrev pub lines_with : Sample → Bool → ℕ → Sample
lines_with s reply dal =
    record {
      reply = reply;
      dal = dal;
      busy = s.busy;
      compute = s.compute;
      reset = s.reset;
      ics = s.ics;
      interrupts = s.interrupts;
    }

-- the lines that an attempt sees: the memory's REPLY and data, and the other external lines
unfoldable pub seen_of : List ℕ → Kept → Bool → ℕ → Sample → Sample
seen_of bytes k sync code s =
    let reply = reply_of k (length bytes) sync in
    lines_with s reply (data_of bytes (kept_address k) reply code s.dal)

-- "A byte output stores the lower lines at an even address and the upper at an odd one"
abbrev pub output_byte : ℕ → ℕ → ℕ
output_byte address value = pick (eqb (address % 2) 0) (value % 0x100) (value / 0x100)

-- what an attempt's request does to the bytes: a word output (6) stores both bytes of the word, a byte output (7) one; no other stores
unfoldable pub stored_in : List ℕ → Kept → ℕ → List ℕ
stored_in bytes k request =
    let value = value_in request in
    pick (eqb (kind_in request) 6)
    (set (set bytes (even_of (kept_address k)) (value % 0x100)) (even_of (kept_address k) + 1) (value / 0x100))
    (pick (eqb (kind_in request) 7) (set bytes (kept_address k) (output_byte (kept_address k) value)) bytes)

-- a wait (10), by a code that transfers
unfoldable pub transfer_waits : Bool → ℕ → Bool
transfer_waits transfer request = eqb (kind_in request) 10 && transfer

unfoldable pub waits_after : ℕ → Bool → ℕ → ℕ
waits_after waits transfer request = pick (transfer_waits transfer request) (min (waits + 1) 32) 0

-- what it does to what is kept: "a later one starts the delay anew"; every other attempt uses up one of those that were to see REPLY low
unfoldable pub kept_after : ℕ → Kept → Bool → ℕ → Kept
kept_after delay k transfer request =
    pick (accesses request)
    (kept_of (Some (value_in request)) delay 0)
    (kept_of k.access (k.low - 1) (waits_after k.waits transfer request))

-- "17 in place of a 33rd IB, IW, OB or OW wait in a row, the kept address beyond the memory"
unfoldable pub stuck_of : ℕ → Kept → Bool → ℕ → Bool
stuck_of size k transfer request = transfer_waits transfer request && leb 32 k.waits && accessed k && leb size (kept_address k)

-- "16 memory length odd or over the limit, or delay over 15"
unfoldable pub memory_refusal_of : ℕ → ℕ → ℕ
memory_refusal_of size delay = pick (eqb (size % 2) 0 && leb size 65536 && leb delay 15) 0 16

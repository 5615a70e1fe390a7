-- What a cut's steps leave is what demand 3 says: the run's parts put together. Assumes nothing.
use Prim.Native.Nat.{ℕ, ◌+◌, ◌-◌, ◌*◌, ◌≤◌}
use mathlib.Core.Path.{◌≡◌, refl, ap, sym, ◌∙◌}
use mathlib.Core.Bool.{Bool, true, false, not-not}
use mathlib.Core.List.{List, [], ◌∷◌, ◌++◌}
use native.Mathlib.Omega.{arith}
use lib.Dec.{eqb, leb}
use lib.ListN.{length, get_or, drop}
use Rattle.alu.proofs.Laws.{sum-bytes}
use Rattle.alu.specs.Numbers.{value, sum_bytes, half}
use Rattle.alu.specs.declared.Cycle.{Cycle}
use Rattle.alu.specs.declared.Flags.{Flags}
use Rattle.state.specs.File.{Leaves, leaves}
use Rattle.engine.specs.Run.{World, run_from}
use Rattle.state.specs.declared.Core.{Core}
use Rattle.state.specs.declared.Latches.{Latches}
use Rattle.state.specs.declared.Sample.{Sample}
use Rattle.sums.specs.Sums.{Cut, Sign, targets, sources, byte_count, instructions_of, Fair, Ready, Marked, Advanced}
use Rattle.sums.specs.Sums.{Summed, registers_at, target_in, last_in, result_of, c_of, v_of, c8_of, c4_of, last_targets}
use Rattle.sums.specs.Sums.Sign.{plus, minus}
use Rattle.sums.proofs.Codes.{carry_in}
use Rattle.sums.proofs.Cycles.{odd_code_flags}
use Rattle.sums.proofs.Run.{after, run_is, place-left, samples-left}
use Rattle.sums.proofs.Rest.{answer-is, attempts-are, microcycles-are, lc-is, rr-is, outputs-are, kept-is, latches-are}
use Rattle.sums.proofs.Rest.{room-is, requests-other, requests-there}
use Rattle.sums.proofs.Chain.{added, cut_made, made-is, chain_file, file-is, flags-are, chain_length}
use Rattle.sums.proofs.Chain.{chain-bytes, chain-other, Separate, separate, chain-target, last_cycle, chain-last, zero_is}
use Rattle.sums.proofs.Numbers.{Last, last-is, result-law, c-law, last-v-law, c4-law, last_byte, sign-law}
use Rattle.sums.proofs.Given.{direct-left, direct-right, all_fit, words-length, same_length, some-steps, registers-length, registers-bytes}

-- ---- flags, whatever they were before the first step

-- before the first cycle: its carry in
abbrev before : Sign → Cycle
before sign = record { result = 0; c4 = false; c8 = carry_in sign; v = false; c = c8_of sign (carry_in sign) }

-- the last of a cut's cycles
abbrev last_of : Sign → List ℕ → Cut → Cycle
last_of sign xs cut = last_cycle sign (before sign) (registers_at xs (targets cut)) (registers_at xs (sources cut)) (carry_in sign)

flags-from : (sign : Sign) (xs : List ℕ) (cut : Cut) (f : Flags) → 1 ≤ length cut → Separate (targets cut) (sources cut)
    → (cut_made sign xs (carry_in sign) cut f).back ≡ odd_code_flags (last_of sign xs cut) (cut_made sign xs (carry_in sign) cut f).back.z
flags-from sign xs [] f some h = absurd (omega arith)
flags-from sign xs (t ∷ ts) f some h =
    flags-are sign xs (carry_in sign) (t ∷ ts) (odd_code_flags (before sign) false) (before sign) refl
    ∙ ap (λ (y : Cycle). odd_code_flags y (cut_made sign xs (carry_in sign) (t ∷ ts) f).back.z)
    (chain-last sign (before sign) xs (carry_in sign) (targets (t ∷ ts)) (sources (t ∷ ts)) h)

zero-from : (sign : Sign) (xs : List ℕ) (cut : Cut) (f : Flags) → 1 ≤ length cut → length xs ≡ 26 → Separate (targets cut) (sources cut)
    → (cut_made sign xs (carry_in sign) cut f).back.z
    ≡ eqb (value (registers_at (cut_made sign xs (carry_in sign) cut f).file (last_targets [] cut))) 0
zero-from sign xs [] f some l h = absurd (omega arith)
zero-from sign xs (t ∷ ts) f some l h = zero_is sign xs (carry_in sign) (t ∷ ts) (odd_code_flags (before sign) true) [] l h refl

c8-twice : (sign : Sign) (t : Bool) → c8_of sign (c8_of sign t) ≡ t
c8-twice plus t = refl
c8-twice minus t = not-not t

-- ---- all of it

-- a cut's words, whatever other instructions follow
module _ (sign : Sign) (cut : Cut) (is ws : List ℕ) (ss : List Sample) (v : World)
    (h : Ready (instructions_of sign false cut ++ is) ws ss v) (f : Fair cut) where
  -- the world after them
  abbrev w : World
  w = after sign false cut ws v

  abbrev ps : List ℕ
  ps = registers_at v.file (targets cut)

  abbrev qs : List ℕ
  qs = registers_at v.file (sources cut)

  apart : Separate (targets cut) (sources cut)
  apart = separate (targets cut) (sources cut) f.different

  same_bytes_lem : length ps ≡ length qs
  same_bytes_lem = registers-length v.file (targets cut) ∙ same_length cut ∙ sym (registers-length v.file (sources cut))

  made_after : leaves w.file w.core.flags ≡ cut_made sign v.file (carry_in sign) cut v.core.flags
  made_after = made-is sign false cut ws v

  file-after : w.file ≡ chain_file sign v.file (carry_in sign) (targets cut) (sources cut)
  file-after = ap (λ (m : Leaves Flags). m.file) made_after ∙ file-is sign v.file (carry_in sign) cut v.core.flags

  bytes_after : registers_at w.file (targets cut) ≡ sum_bytes ps (added sign qs) (carry_in sign)
  bytes_after =
      ap (λ (ys : List ℕ). registers_at ys (targets cut)) file-after
      ∙ chain-target sign v.file (carry_in sign) (targets cut) (sources cut) h.file (same_length cut) apart

  flags-after : w.core.flags
      ≡ odd_code_flags (last_of sign v.file cut) (cut_made sign v.file (carry_in sign) cut v.core.flags).back.z
  flags-after = ap (λ (m : Leaves Flags). m.back) made_after ∙ flags-from sign v.file cut v.core.flags (some-steps cut f.some) apart

  zero-after : w.core.flags.z ≡ eqb (last_in w.file cut) 0
  zero-after =
      ap (λ (m : Leaves Flags). m.back.z) made_after
      ∙ zero-from sign v.file cut v.core.flags (some-steps cut f.some) h.file apart
      ∙ ap (λ (m : Leaves Flags). eqb (last_in m.file cut) 0) (sym made_after)

  last-after : Last sign (before sign) ps qs (carry_in sign) (last_of sign v.file cut)
  last-after = last-is sign (before sign) ps qs (carry_in sign) same_bytes_lem refl refl

  count : length ps ≡ byte_count cut
  count = registers-length v.file (targets cut)

  target-after : target_in w.file cut ≡ result_of sign (byte_count cut) (value ps) (value qs)
  target-after =
      ap value bytes_after
      ∙ result-law ps qs (registers-bytes v.file (targets cut) h.bytes) (registers-bytes v.file (sources cut) h.bytes) same_bytes_lem sign
      ∙ ap (λ (i : ℕ). result_of sign i (value ps) (value qs)) count

  sign-after : w.core.flags.n ≡ leb (half (byte_count cut - 1)) (result_of sign (byte_count cut) (value ps) (value qs))
  sign-after =
      let rs = registers_at w.file (targets cut) in
      let n : length rs ≡ byte_count cut = registers-length w.file (targets cut) in
      let b = sum-bytes ps (added sign qs) (carry_in sign) in
      ap (λ (x : Flags). x.n) flags-after
      ∙ ap (leb 128) (last-after.result ∙ ap (last_byte 0) (sym bytes_after))
      ∙ sign-law 0 rs (rw bytes_after b) (omega (arith, f.some))
      ∙ ap (λ (i : ℕ). leb (half (i - 1)) (value rs)) n
      ∙ ap (leb (half (byte_count cut - 1))) target-after

  marked-after : Marked sign (byte_count cut) (value ps) (value qs) (last_in w.file cut) w.core.flags
  marked-after =
      let bp = registers-bytes v.file (targets cut) h.bytes in
      let bq = registers-bytes v.file (sources cut) h.bytes in
      let some : 1 ≤ length ps = omega (arith, f.some, count) in
      record {
        c =
            ap (λ (x : Flags). x.c) flags-after ∙ last-after.c-flag ∙ ap (c8_of sign) last-after.c8 ∙ c-law ps qs bp bq same_bytes_lem sign
            ∙ ap (λ (i : ℕ). c_of sign i (value ps) (value qs)) count;
        v =
            ap (λ (x : Flags). x.v) flags-after ∙ last-after.v ∙ last-v-law sign ps qs false bp bq same_bytes_lem some
            ∙ ap (λ (i : ℕ). v_of sign i (value ps) (value qs)) count;
        c8 =
            ap (λ (x : Flags). x.c8) flags-after ∙ sym (c8-twice sign _)
            ∙ ap (c8_of sign) (sym (ap (λ (x : Flags). x.c) flags-after ∙ last-after.c-flag));
        c4 =
            ap (λ (x : Flags). x.c4) flags-after ∙ last-after.c4 ∙ c4-law sign ps qs false bp bq same_bytes_lem some
            ∙ ap (λ (i : ℕ). c4_of sign i (value ps) (value qs)) count;
        n = sign-after;
        nb = ap (λ (x : Flags). x.nb) flags-after ∙ sym (ap (λ (x : Flags). x.n) flags-after);
        z = zero-after;
        zb = ap (λ (x : Flags). x.zb) flags-after ∙ sym (ap (λ (x : Flags). x.z) flags-after);
      }

  room : (v.attempts + (length cut + length is)) * 4 ≤ length v.buffer
  room = rw (words-length sign false cut is) at h.places

  advanced-after : Advanced (length cut) (byte_count cut) ws v w
  advanced-after =
      record {
        answer = answer-is sign ws false cut v (some-steps cut f.some);
        attempts = attempts-are sign ws false cut v;
        spent = microcycles-are sign ws false cut v;
        lc = lc-is sign ws false cut v h.lc;
        rr = rr-is sign ws false cut v;
        tsr = kept-is sign ws (λ (x : Core). x.address.tsr) (λ l t x. refl) false cut v;
        bus = kept-is sign ws (λ (x : Core). x.bus) (λ l t x. refl) false cut v;
        latches = latches-are sign ws false cut v h.unmarked h.unmodified;
        outputs = outputs-are sign ws false cut v h.lc (some-steps cut f.some);
        requests = λ i d lo hi. requests-there sign ws false cut v i d lo (omega arith) (omega (arith, room));
        earlier = λ i d l. requests-other sign ws false cut v i d (λ lo hi. absurd (omega arith));
        later = λ i d l. requests-other sign ws false cut v i d (λ lo hi. absurd (omega arith));
        room = room-is sign ws false cut v;
      }

  -- the run goes on from what demand 3 says of them
  pub summed-after : Summed sign cut ws v w
  summed-after =
      record {
        advanced = advanced-after;
        target = target-after;
        flags = marked-after;
        others = λ i o. ap (λ (ys : List ℕ). get_or ys i 0) file-after ∙ chain-other sign v.file (carry_in sign) (targets cut) (sources cut) i o;
        file = ap length file-after ∙ chain_length sign v.file (carry_in sign) (targets cut) (sources cut) ∙ h.file;
        bytes = rw file-after (chain-bytes sign v.file (carry_in sign) (targets cut) (sources cut) h.bytes);
      }

  pub goes_on : run_from ws [] ss v ≡ run_from ws [] (drop (length cut) ss) w
  goes_on =
      let direct = direct-left (targets cut) (sources cut) f.different in
      let sources-direct = direct-right (targets cut) (sources cut) f.different in
      run_is sign ws is false cut ss v h.words (all_fit cut direct sources-direct f.even) h.in_place h.computing h.unmarked

  -- and the other instructions can be run
  pub ready-after : Ready is ws (drop (length cut) ss) w
  ready-after =
      let a = advanced-after in
      record {
        words = h.words;
        file = summed-after.file;
        bytes = summed-after.bytes;
        lc = omega (arith, a.lc);
        places = omega (arith, a.attempts, a.room, room);
        in_place = place-left sign ws is false cut v h.in_place;
        computing = samples-left sign ws is false cut ss h.computing;
        unmarked = ap (λ (l : Latches). l.marked) a.latches ∙ h.unmarked;
        unmodified = ap (λ (l : Latches). l.modification) a.latches ∙ h.unmodified;
      }

-- The code's tests are the definition's, and what they pass has a code below 256.
use mathlib.Core.Path.{◌≡◌, refl, sym, ◌∙◌}
use mathlib.Core.Bool.{true, false}
use Rattle.std.proofs.Common.{arith, rules}
use Rattle.forms.specs.Forms.{form_of}
use Rattle.line.specs.Line.{fits_form}
use Rattle.line.specs.Coded.{tail_as}
use Rattle.line.proofs.Steps.{not-fitting, no-twin, word_made, code_below, digit_said}
use Rattle.line.proofs.made.Goals as goal

pub returns-then-not-fits : goal.returns-then-not-fits
returns-then-not-fits c =
    let e : c.fits.result ≡ false = search rules in
    let misfit : fits_form (form_of c.args.top) (tail_as c.args.t) ≡ false = rw (← c.form_of-form.ensures) (sym c.fits.ensures ∙ e) in
    sym (not-fitting c.args.top (tail_as c.args.t) misfit)

pub returns-then-marks-has_twin : goal.returns-then-marks-has_twin
returns-then-marks-has_twin c = sym (no-twin c.args.top (tail_as c.args.t) (rw c.has_twin.ensures at c.if-marks-has_twin.true))

pub overflow_add-top : goal.overflow_add-top
overflow_add-top c =
    let one = rw c.has_twin.ensures at c.if-marks-has_twin.false in
    omega (arith, c.bit_of.ensures.0, code_below c.args.top c.args.t.marks.odd (search rules) one)

pub returns : goal.returns
returns c =
    let e : c.fits.result ≡ true = search rules in
    let fit : fits_form (form_of c.args.top) (tail_as c.args.t) ≡ true = rw (← c.form_of-form.ensures) (sym c.fits.ensures ∙ e) in
    let one = rw c.has_twin.ensures at c.if-marks-has_twin.false in
    rw (
      word_made c.args.top (tail_as c.args.t) fit refl one,
      c.put_together.ensures,
      c.bit_of.ensures.0,
      c.operands_in.ensures,
      c.joined-low.ensures,
      c.class_of-class.ensures,
      c.form_of-form.ensures,
      c.unwrap_or.ensures,
      c.unwrap_or-2.ensures,
      c.unwrap_or-3.ensures,
      digit_said c.args.t.marks.user,
    )

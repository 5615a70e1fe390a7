-- Words that the lister gives no 2 are whole, and no more than 2,048.
use Rattle.std.proofs.Common.{◌≡◌, Err, arith, rules}
use Rattle.profile.proofs.Laws.{refused, whole, held, broken-among}
use Rattle.profile.proofs.profile.Goals as goal

pub returns-in_err-in_range-clause-told : goal.returns-in_err-in_range-clause-told
returns-in_err-in_range-clause-told c =
    let same : c.from_residual.result ≡ Err c.in_err-in_range.field-0.0 = search rules in
    rw same (refused c.args.words.now c.in_err-in_range.field-0.0 c.in_err-in_range.ensures.told)

pub overflow_cast-words : goal.overflow_cast-words
overflow_cast-words c = omega (arith, (whole c.args.words.now c.in_ok-in_range.ensures.told).1)

pub returns-clause-told : goal.returns-clause-told
returns-clause-told c = held c.args.words.now c.in_ok-in_range.ensures.told _ c.first_broken.ensures

pub returns-clause-among : goal.returns-clause-among
returns-clause-among c = broken-among c.args.words.now _ c.first_broken.result c.first_broken.ensures

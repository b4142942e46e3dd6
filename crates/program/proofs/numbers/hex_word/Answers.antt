use Rattle.std.proofs.Common.{arith}
use Rattle.std.proofs.lemmas.Result.{err_from_is_err_and}
use Rattle.program.proofs.Digits.{digit_read, digit_refused, all_read}
use Rattle.program.proofs.numbers.hex_word.Goals as goal

pub returns-in_err-number : goal.returns-in_err-number
returns-in_err-number c =
    let p = err_from_is_err_and c.from_residual.result c.from_residual.ensures.1 in
    rw (p.1, p.2) (
    digit_refused c.args.text.now c.loop-byte.byte-index c.loop-byte.number _ (omega arith)
    c.in_err-number.ensures c.loop-byte.invariant)

pub loop-byte-preserved : goal.loop-byte-preserved
loop-byte-preserved c =
    digit_read c.args.text.now c.loop-byte.byte-index c.loop-byte.number _ (omega arith)
    c.in_ok-number.ensures c.loop-byte.invariant

pub returns : goal.returns
returns c = all_read c.args.text.now c.loop-byte.byte-index c.loop-byte.number (omega arith) c.loop-byte.invariant

use native.Mathlib.Omega.{arith}
use Rattle.answer.proofs.Written.{answer_put, strings_most}
use Rattle.answer.proofs.write_answer.Goals as goal

pub put_tail-requires : goal.put_tail-requires
put_tail-requires c =
    let t = c.requires.0 in
    let most = strings_most c.args.characters.now c.args.sizes.now c.args.p t c.args.p (omega arith) in (
      c.requires.1,
      omega
          (arith, most, t.few, c.put_strings-at.ensures.value, c.put_strings-at.auto.buffer, c.requires.2, c.requires.1.few),
    )

pub returns : goal.returns
returns c =
    cc (answer_put c.args.buffer.now c.args.characters.now c.args.sizes.now c.args.p c.args.model.now c.args.q c.requires.0
    c.requires.1 c.requires.2)

use mir.Syntax.{w64}
use Prim.Native.Nat.{◌*◌, ◌+◌, ℕ}
use borrow.Author.Rules.{rules}
use lib.IntN.{pos, ℤ}
use lib.ListN.{get_or, take}
use lib.Seq.{sets}
use mathlib.Core.List.{List, flat_map}
use mathlib.Core.Path.{◌∙◌, ◌≡◌, ap, ap₂, refl}
use mir.Facts.{to_z-of_z}
use native.Mathlib.Omega.{arith}
use Rattle.answer.proofs.Written.{integers_more}
use Rattle.format.specs.Answer.{integer_bytes}
use Rattle.format.specs.Fields.{bytes_of, unsigned}
use Rattle.answer.proofs.put_integers.Goals as goal

pub loop-i-init : goal.loop-i-init
unfolding integer_bytes flat_map
loop-i-init c = (refl, refl)

pub loop-i-preserved : goal.loop-i-preserved
loop-i-preserved c =
    let l = c.loop-i in
    let z : ℤ = get_or c.args.model.now l.i (pos 0) in
    let v : c.bits_of.result ≡ unsigned z =
    c.bits_of.ensures ∙ ap unsigned (to_z-of_z {w = w64} {z = z} (record { sfits = search rules })) in (
      c.put_u32.auto.buffer ∙ l.invariant.0,
      c.put_u32.ensures
          ∙ ap₂ (λ (b : List ℕ) (w : ℕ). sets b (c.args.at + 4 * l.i) (bytes_of 4 w)) l.invariant.1 v
          ∙ integers_more c.args.buffer.now c.args.model.now c.args.at l.i (omega (arith, c.requires.0.there)),
    )

pub returns : goal.returns
returns c =
    let l = c.loop-i in
    let e : l.i ≡ c.args.q = omega arith in
    l.invariant.1 ∙ ap (λ (i : ℕ). sets c.args.buffer.now c.args.at (integer_bytes (take i c.args.model.now))) e

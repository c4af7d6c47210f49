use Prim.Native.Nat.{◌+◌, ◌<◌, ℕ}
use lib.ListN.{get_or, length, length-append}
use lib.Seq.{sets}
use mathlib.Core.List.{List, flat_map}
use mathlib.Core.Path.{◌∙◌, ◌≡◌, ap, ap₂, refl, sym}
use native.Mathlib.Omega.{arith}
use Rattle.answer.proofs.Written.{strings_more, strings_most, strings_put}
use Rattle.answer.specs.Table.{row, table_strings}
use Rattle.format.specs.Answer.{character_bytes, record_bytes, string_records}
use Rattle.answer.proofs.put_strings.Goals as goal

pub loop-x-init : goal.loop-x-init
unfolding table_strings string_records flat_map
loop-x-init c = (refl, refl, refl)

pub bounds-sizes-x : goal.bounds-sizes-x
bounds-sizes-x c =
    let pre = c.requires in
    omega (arith, pre.0.sized)

pub put_row-at-requires : goal.put_row-at-requires
put_row-at-requires c =
    let l = c.loop-x in
    let t = c.requires.0 in
    let h : l.x < c.args.p = omega arith in
    let most = strings_most c.args.characters.now c.args.sizes.now c.args.p t l.x (omega arith) in
    (omega (arith, t.few), t.short l.x h, omega (arith, t.room), omega (arith, t.few, t.short l.x h, most))

pub loop-x-preserved : goal.loop-x-preserved
loop-x-preserved c =
    let s = c.args in
    let l = c.loop-x in
    let cs = s.characters.now in
    let ms = s.sizes.now in
    let r = record_bytes 9 (character_bytes (row cs l.x (get_or ms l.x 0))) in (
      c.put_row-at.auto.buffer ∙ l.invariant.0,
      c.put_row-at.ensures.value ∙ ap (λ (k : ℕ). k + length r) l.invariant.1
          ∙ sym (ap length (strings_more cs ms l.x) ∙ length-append (string_records (table_strings cs ms l.x)) r),
      c.put_row-at.ensures.buffer_after ∙ ap₂ (λ (b : List ℕ) (k : ℕ). sets b k r) l.invariant.2 l.invariant.1 ∙ strings_put cs ms s.buffer.now l.x,
    )

pub returns : goal.returns
returns c =
    let l = c.loop-x in
    let s = c.args in
    let e : l.x ≡ s.p = omega arith in record {
      value = l.invariant.1 ∙ ap (λ (x : ℕ). length (string_records (table_strings s.characters.now s.sizes.now x))) e;
      buffer_after = l.invariant.2 ∙ ap (λ (x : ℕ). sets s.buffer.now 0 (string_records (table_strings s.characters.now s.sizes.now x))) e;
    }

use Prim.Native.Nat.{◌*◌, ◌+◌, ◌-◌, ℕ}
use lib.ListN.{length}
use lib.Seq.{sets}
use mathlib.Core.Path.{◌∙◌, ◌≡◌, ap}
use native.Mathlib.Omega.{arith}
use Rattle.answer.specs.Table.{row}
use Rattle.format.specs.Answer.{character_bytes, record_bytes}
use Rattle.answer.proofs.put_row.Goals as goal

pub returns : goal.returns
returns c =
    let s = c.args in
    let n : 64 * s.x + s.size - 64 * s.x ≡ s.size = omega arith in record {
      value = c.put_string.ensures.value ∙ ap (λ (k : ℕ). s.at + length (record_bytes 9 (character_bytes (row s.characters.now s.x k)))) n;
      buffer_after = c.put_string.ensures.buffer_after
          ∙ ap (λ (k : ℕ). sets s.buffer.now s.at (record_bytes 9 (character_bytes (row s.characters.now s.x k)))) n;
    }

use Prim.Native.Nat.{◌*◌, ℕ}
use lib.ListN.{length}
use mathlib.Core.List.{List}
use mathlib.Core.Path.{◌≡◌, sym}
use native.Mathlib.Omega.{arith}
use Rattle.writing.proofs.Records.{record_put}
use Rattle.format.proofs.Encoded.{length_characters, length_record}
use Rattle.format.specs.Answer.{character_bytes}
use Rattle.answer.proofs.put_string.Goals as goal

pub returns : goal.returns
returns c =
    let s = c.args in
    let t : List ℕ = s.characters.now in
    let n : 4 * length t ≡ length (character_bytes t) = sym (length_characters t) in
    record {
      value = omega (arith, length_record 9 (character_bytes t));
      buffer_after = cc (record_put s.buffer.now s.at (4 * length t) 9 (character_bytes t) n);
    }

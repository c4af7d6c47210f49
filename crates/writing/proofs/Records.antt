-- A record from its stores.
use mathlib.Core.Path.{◌≡◌, sym, ◌∙◌, ap}
use mathlib.Core.List.{List, ◌++◌, append_assoc}
use Prim.Native.Nat.{ℕ, ◌+◌}
use lib.ListN.{length, length-append}
use lib.Seq.{sets}
use Rattle.lists.proofs.Stores.{sets_sets}
use Rattle.format.specs.Fields.{bytes_of}
use Rattle.format.specs.Answer.{record_bytes}
use Rattle.format.proofs.Encoded.{length_bytes}

-- length and kind, and then the body, stored one after the other, are the record
pub record_put : (b : List ℕ) (at m k : ℕ) (body : List ℕ)
    → m ≡ length body
    → sets (sets b at (bytes_of 4 m ++ bytes_of 2 k)) (at + 6) body ≡ sets b at (record_bytes k body)
record_put b at m k body e =
    let n : length (bytes_of 4 m ++ bytes_of 2 k) ≡ 6 = length-append (bytes_of 4 m) (bytes_of 2 k) ∙ rw (length_bytes 4 m, length_bytes 2 k) in
    ap (λ (j : ℕ). sets (sets b at (bytes_of 4 m ++ bytes_of 2 k)) (at + j) body) (sym n)
    ∙ sets_sets (bytes_of 4 m ++ bytes_of 2 k) body b at
    ∙ ap (sets b at) (append_assoc (bytes_of 4 m) (bytes_of 2 k) body)
    ∙ ap (λ (j : ℕ). sets b at (bytes_of 4 j ++ (bytes_of 2 k ++ body))) e

use Rattle.std.proofs.Common.{◌≡◌, ◌∙◌, ◌≤◌, ℤ, nat_abs, w32, w64}
use Rattle.std.proofs.lemmas.Int.{to_z-of_z}
use Rattle.records.proofs.Signed.{size_bound}
use Rattle.records.proofs.i32_at.Goals as goal

-- a number that equals one of 32 bits, with its bound
bounded : (x z w : ℤ) → x ≡ z → z ≡ w → nat_abs z ≤ 2147483648 → (x ≡ w) × (nat_abs x ≤ 2147483648)
bounded x z w e f h = (e ∙ f, rw e h)

pub returns : goal.returns
returns c =
    bounded _ c.read.result _
    (to_z-of_z w64 _ (record { sfits = c.from.type_inv }) ∙ c.from.ensures ∙ to_z-of_z w32 _ (record { sfits = c.read.type_inv }))
    c.read.ensures (size_bound c.read.result c.read.type_inv)

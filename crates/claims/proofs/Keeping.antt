-- What is kept of a branch's first facts: unions over as many as the labels cover, and those of the question's constraints.
use Prim.Native.Nat.{ℕ, ◌≤◌, ◌<◌}
use native.Mathlib.Omega.{arith}
use mathlib.Core.Path.{◌≡◌, refl, ap}
use mathlib.Core.Bool.{Bool, true, false}
use mathlib.Core.List.{List, []}
use lib.ListN.{take}
use lib.IntN.{ℤ}
use Rattle.calculus.specs.Cores.{only, Rested, rooted_from}
use Rattle.rows.specs.Rows.{branch_of}
use Rattle.classes.specs.declared.Known.{Known}
use Rattle.classes.specs.Classes.{Knows}
use Rattle.steps.specs.declared.Rule.{Rule}
use Rattle.steps.specs.Rules.{rule_named}
use Rattle.conclusions.specs.Labels.{asks_classes, KnownFor}
use Rattle.conclusions.proofs.Labels.{known_for}
use Rattle.cores.specs.declared.Words.{Words}
use Rattle.cores.specs.declared.Unions.{Unions}
use Rattle.cores.specs.Words.{words_of, unions_of}
use Rattle.cores.specs.Sets.{words_at, Stands}
use Rattle.delimiters.specs.declared.Claim.TheVariants.{NoSolution}
use Rattle.cores.proofs.Standing.{stands_rooted}
use Rattle.claims.specs.Steps.{FirstGrounds}

-- labels cover as many facts as before, or all
pub upto_grown : {rule : Rule} {known k : Known} {w : List ℤ} {count : ℕ} → Knows w count known → KnownFor rule known w count k
    → (known.upto ≤ k.upto) × (k.upto ≤ count)
upto_grown {rule} {known} {k} {w} {count} h f = (go (asks_classes (rule_named rule)) refl, (known_for h f).0.few)
  where
    go : (t : Bool) → asks_classes (rule_named rule) ≡ t → known.upto ≤ k.upto
    go true a = omega (arith, (f.brought a).0, h.few)
    go false a = omega (arith, ap (λ (x : Known). x.upto) (f.kept a))

-- at first each constraint rests on itself: the unions over them all, brought up from those of none; nothing is gathered
pub first_grounds : (w : List ℤ) (v : List Words) (n : ℕ) (u x : Unions) (c : Words)
    → ((k : ℕ) → k < n → words_at v k ≡ words_of (only k))
    → u ≡ unions_of []
    → ((r : Rested) → Stands w v n r → u ≡ unions_of (take 0 r) → x ≡ unions_of r)
    → c ≡ words_of []
    → FirstGrounds NoSolution w v n (record { unions = x; roots = x; core = c })
unfolding FirstGrounds
first_grounds w v n u x c h e up z =
    let r : Rested = rooted_from 0 (branch_of w n) in
    let s : Stands w v n r = stands_rooted w v n h in
    (s, up r s e, up r s e, z)

-- Forms by their entries: sums and multiples, values and lengths, equality place by place, and division.
use Prim.Native.Nat.{ℕ, zero, suc, ◌+◌, ◌-◌, ◌<◌, ◌≤◌}
use native.Mathlib.Omega.{arith}
use mathlib.Core.Path.{◌≡◌, refl, sym, ◌∙◌, ap, ap₂, subst}
use mathlib.Core.Bool.{◌&&◌}
use mathlib.Core.Option.{some}
use mathlib.Core.List.{List, [], ◌∷◌, ◌++◌, tail}
use lib.ListN.{length, length-append, length-replicate, length-map}
use lib.Dec.{T, leb, leb→le, le→leb}
use lib.IntN.{ℤ, pos, negsuc, one, ◌+ℤ◌, ◌*ℤ◌, +ℤ_idl, +ℤ_idr, zero-*ℤ, *ℤ-zero, *ℤ-one}
use lib.Signed.{◌≤ℤ◌, ◌<ℤ◌}
use Rattle.integers.specs.Division.{floor_div}
use Rattle.integers.proofs.Laws.{floor_low, floor_high, floor_unique, floor_multiple}
use Rattle.lists.proofs.Options.{none_some}
use Rattle.lists.proofs.Tests.{and→, →and}
use Rattle.calculus.specs.Limits.{column_limit}
use Rattle.calculus.specs.LinearForms.{plus, scale, zeros, number, column, minus, above, below, is_zero, eq_integers, all_zero, floor_div_all, dot}
use Rattle.calculus.specs.Rules.{divided}
use Rattle.calculus.specs.Facts.{Fact, Branch}
use Rattle.calculus.specs.Instances.{entry, total, IsSum}
use Rattle.calculus.proofs.Tests.{guard→, →guard}
use Rattle.calculus.proofs.LinearForms.{is_zero→, →is_zero, eq_integers→, →eq_integers}

pub entry_plus : (a b : List ℤ) (j : ℕ) → entry (plus a b) j ≡ entry a j +ℤ entry b j
entry_plus [] b j = sym (+ℤ_idl (entry b j))
entry_plus (x ∷ a) [] j = sym (+ℤ_idr (entry (x ∷ a) j))
entry_plus (x ∷ a) (y ∷ b) zero = refl
entry_plus (x ∷ a) (y ∷ b) (suc j) = entry_plus a b j

pub entry_scale : (k : ℤ) (a : List ℤ) (j : ℕ) → entry (scale k a) j ≡ k *ℤ entry a j
entry_scale k [] j = sym (*ℤ-zero k)
entry_scale k (x ∷ a) zero = refl
entry_scale k (x ∷ a) (suc j) = entry_scale k a j

pub entry_tail : (a : List ℤ) (j : ℕ) → entry (tail a) j ≡ entry a (suc j)
entry_tail [] j = refl
entry_tail (x ∷ a) j = refl

-- forms of one length that agree in every place are the same
pub by_entries : (a b : List ℤ) → length a ≡ length b → ((j : ℕ) → entry a j ≡ entry b j) → a ≡ b
by_entries [] [] l h = refl
by_entries [] (y ∷ b) l h = absurd (omega arith)
by_entries (x ∷ a) [] l h = absurd (omega arith)
by_entries (x ∷ a) (y ∷ b) l h = ap₂ ◌∷◌ (h 0) (by_entries a b (omega arith) (λ j. h (suc j)))

pub all_zero→ : (a : List ℤ) → T (all_zero a) → (j : ℕ) → entry a j ≡ pos 0
all_zero→ [] t j = refl
all_zero→ (x ∷ a) t zero = is_zero→ x (and→ (is_zero x) (all_zero a) t).0
all_zero→ (x ∷ a) t (suc j) = all_zero→ a (and→ (is_zero x) (all_zero a) t).1 j

pub →all_zero : (a : List ℤ) → ((j : ℕ) → entry a j ≡ pos 0) → T (all_zero a)
→all_zero [] h = tt
→all_zero (x ∷ a) h = →and (is_zero x) (all_zero a) (→is_zero (h 0)) (→all_zero a (λ j. h (suc j)))

-- ---- values

dot_none : (a v : List ℤ) → ((j : ℕ) → entry a j ≡ pos 0) → dot a v ≡ pos 0
dot_none [] v h = refl
dot_none (x ∷ a) [] h = refl
dot_none (x ∷ a) (z ∷ v) h = ap₂ ◌+ℤ◌ (ap (λ c. c *ℤ z) (h 0) ∙ zero-*ℤ z) (dot_none a v (λ j. h (suc j)))

-- forms that agree in every place have one value
pub dot_entries : (a b v : List ℤ) → ((j : ℕ) → entry a j ≡ entry b j) → dot a v ≡ dot b v
dot_entries [] b v h = sym (dot_none b v (λ j. sym (h j)))
dot_entries (x ∷ a) [] v h = dot_none (x ∷ a) v h
dot_entries (x ∷ a) (y ∷ b) [] h = refl
dot_entries (x ∷ a) (y ∷ b) (z ∷ v) h = ap₂ ◌+ℤ◌ (ap (λ c. c *ℤ z) (h 0)) (dot_entries a b v (λ j. h (suc j)))

-- the constant, and the other places
pub dot_split : (e v : List ℤ) → dot e (pos 1 ∷ v) ≡ entry e 0 +ℤ dot (tail e) v
unfolding one
dot_split [] v = refl
dot_split (c ∷ e) v = ap (λ k. k +ℤ dot e v) (*ℤ-one c)

-- ---- the sum of forms, each times its multiplier

abbrev pub summed : List (ℕ × ℤ) → List (List ℤ) → List ℤ
summed [] es = []
summed (t ∷ ts) [] = []
summed (t ∷ ts) (e ∷ es) = plus (scale t.1 e) (summed ts es)

pub entry_summed : (ts : List (ℕ × ℤ)) (es : List (List ℤ)) (j : ℕ) → entry (summed ts es) j ≡ total j ts es
entry_summed [] es j = refl
entry_summed (t ∷ ts) [] j = refl
entry_summed (t ∷ ts) (e ∷ es) j = entry_plus (scale t.1 e) (summed ts es) j ∙ ap₂ ◌+ℤ◌ (entry_scale t.1 e j) (entry_summed ts es j)

-- ---- lengths

-- a constant and a coefficient for every column
abbrev pub Whole : List ℤ → Type 0
Whole e = length e ≡ suc column_limit

pub length_plus : (a b : List ℤ) → length b ≤ length a → length (plus a b) ≡ length a
length_plus [] [] h = refl
length_plus [] (y ∷ b) h = absurd (omega arith)
length_plus (x ∷ a) [] h = refl
length_plus (x ∷ a) (y ∷ b) h = ap suc (length_plus a b (omega arith))

pub length_scale : (k : ℤ) (a : List ℤ) → length (scale k a) ≡ length a
length_scale k a = length-map a (λ x. k *ℤ x)

pub whole_number : (k : ℤ) → Whole (number k)
whole_number k = refl

pub whole_column : (j : ℕ) → j < column_limit → Whole (column j)
whole_column j h =
    let e : length (zeros j ++ (pos 1 ∷ zeros (column_limit - 1 - j))) ≡ length (zeros j) + suc (length (zeros (column_limit - 1 - j))) =
    length-append (zeros j) (pos 1 ∷ zeros (column_limit - 1 - j)) in
    let f : length (zeros j) ≡ j = length-replicate j (pos 0) in
    let g : length (zeros (column_limit - 1 - j)) ≡ column_limit - 1 - j = length-replicate (column_limit - 1 - j) (pos 0) in
    let k : length (zeros j ++ (pos 1 ∷ zeros (column_limit - 1 - j))) ≡ column_limit = omega arith in
    ap suc k

pub whole_scale : (k : ℤ) (a : List ℤ) → Whole a → Whole (scale k a)
whole_scale k a h = length_scale k a ∙ h

pub whole_plus : (a b : List ℤ) → Whole a → Whole b → Whole (plus a b)
whole_plus a b h g = length_plus a b (omega arith) ∙ h

pub whole_minus : (a b : List ℤ) → Whole a → Whole b → Whole (minus a b)
whole_minus a b h g = whole_plus a (scale (negsuc 0) b) h (whole_scale (negsuc 0) b g)

pub whole_above : (a : List ℤ) → Whole a → Whole (above a)
whole_above a h = whole_plus a (number (negsuc 0)) h (whole_number (negsuc 0))

pub whole_below : (a : List ℤ) → Whole a → Whole (below a)
whole_below a h = whole_above (scale (negsuc 0) a) (whole_scale (negsuc 0) a h)

-- ---- division: "Column sums must divide exactly; the constant is divided rounding down"

pub length_floor_div_all : (a : List ℤ) (d : ℕ) → length (floor_div_all a d) ≡ length a
length_floor_div_all a d = length-map a (λ x. floor_div x d)

div_entries : (a q : List ℤ) (d : ℕ) → 1 ≤ d → length a ≡ length q → ((j : ℕ) → pos d *ℤ entry q j ≡ entry a j) → floor_div_all a d ≡ q
div_entries [] [] d h l e = refl
div_entries [] (y ∷ q) d h l e = absurd (omega arith)
div_entries (x ∷ a) [] d h l e = absurd (omega arith)
div_entries (x ∷ a) (y ∷ q) d h l e = ap₂ ◌∷◌ (ap (λ z. floor_div z d) (sym (e 0)) ∙ floor_multiple y d h) (div_entries a q d h (omega arith) (λ j. e (suc j)))

-- the numbers of e are those of r divided by d, in words
pub record Divided (d : ℕ) (r e : List ℤ) : Type 0 where
  pub divisor : 1 ≤ d
  pub columns : (j : ℕ) → pos d *ℤ entry e (suc j) ≡ entry r (suc j)
  pub floor_low : (pos d *ℤ entry e 0) ≤ℤ entry r 0
  pub floor_high : entry r 0 <ℤ (pos d *ℤ (entry e 0 +ℤ pos 1))

pub divided→ : (d : ℕ) (r e : List ℤ) → divided d r ≡ some e → Divided d r e × (length e ≡ length r)
divided→ d [] e h = absurd (none_some h)
divided→ d (c ∷ cs) e h =
    let (t, g) = guard→ (leb 1 d && eq_integers (scale (pos d) (floor_div_all cs d)) cs) h in
    let (s, q) = and→ (leb 1 d) (eq_integers (scale (pos d) (floor_div_all cs d)) cs) t in
    let exact : scale (pos d) (floor_div_all cs d) ≡ cs = eq_integers→ (scale (pos d) (floor_div_all cs d)) cs q in (
      subst (Divided d (c ∷ cs)) g (record {
        divisor = leb→le 1 d s;
        columns = λ j. sym (entry_scale (pos d) (floor_div_all cs d) j) ∙ ap (λ a. entry a j) exact;
        floor_low = floor_low c d (leb→le 1 d s);
        floor_high = floor_high c d (leb→le 1 d s);
      }),
      ap length (sym g) ∙ ap suc (length_floor_div_all cs d),
    )

pub →divided : (d : ℕ) (r e : List ℤ) → 1 ≤ length r → length e ≡ length r → Divided d r e → divided d r ≡ some e
→divided d [] e l s w = absurd (omega arith)
→divided d (c ∷ cs) [] l s w = absurd (omega arith)
→divided d (c ∷ cs) (k ∷ ks) l s w =
    let q : floor_div_all cs d ≡ ks = div_entries cs ks d w.divisor (omega arith) w.columns in
    let f : floor_div c d ≡ k = floor_unique c d k w.divisor w.floor_low w.floor_high in
    let exact : scale (pos d) (floor_div_all cs d) ≡ cs =
    ap (scale (pos d)) q ∙ by_entries (scale (pos d) ks) cs (length_scale (pos d) ks ∙ omega arith) (λ j. entry_scale (pos d) ks j ∙ w.columns j) in
    →guard (leb 1 d && eq_integers (scale (pos d) (floor_div_all cs d)) cs)
    (→and (leb 1 d) (eq_integers (scale (pos d) (floor_div_all cs d)) cs) (le→leb 1 d w.divisor) (→eq_integers exact)) (ap₂ ◌∷◌ f q)

-- the form that a Sum adds is its sum divided
pub sum_divided : {b : Branch} {d : ℕ} {ts : List (ℕ × ℤ)} {cs : List (List Fact)} → (i : IsSum b d ts cs) → Divided d (summed ts i.forms) i.new
sum_divided {d = d} {ts = ts} i = record {
  divisor = i.divisor;
  columns = λ j. i.columns j ∙ sym (entry_summed ts i.forms (suc j));
  floor_low = subst (λ z. (pos d *ℤ entry i.new 0) ≤ℤ z) (sym (entry_summed ts i.forms 0)) i.floor_low;
  floor_high = subst (λ z. z <ℤ (pos d *ℤ (entry i.new 0 +ℤ pos 1))) (sym (entry_summed ts i.forms 0)) i.floor_high;
}

-- Forms as pairs: the coefficients that are not 0, with their columns, rise and give the form again, and pairs that rise are those of the form that they give.
use Prim.Native.Nat.{ℕ, zero, suc, ◌+◌, ◌*◌, ◌<◌, ◌≤◌}
use native.Mathlib.Omega.{arith}
use native.Mathlib.Decide.{ℕ_discrete, dec_le}
use mathlib.Core.Path.{◌≡◌, refl, sym, ◌∙◌, ap, ap₂, subst}
use mathlib.Core.Bool.{Bool, true, false, ◌&&◌}
use mathlib.Core.List.{List, [], ◌∷◌, ◌++◌, append_assoc}
use lib.ListN.{length, get_or, drop, length-append}
use lib.Seq.{set_at, append_snoc}
use lib.Dec.{leb, ltb}
use lib.IntN.{ℤ, pos, negsuc, nat_abs}
use borrow.Author.Tests.{ltb-true, leb-true, lt-ltb, le-leb}
use Rattle.lists.specs.Lists.{All}
use Rattle.lists.proofs.Tests.{true→, and_both, →and_both}
use Rattle.calculus.specs.Limits.{Small, column_limit, number_limit}
use Rattle.calculus.specs.LinearForms.{zeros, is_zero}
use Rattle.calculus.proofs.LinearForms.{is_zero→}
use Rattle.calculus.specs.Facts.{Question, column_count}
use Rattle.format.specs.Fields.{bytes_of, unsigned, i32, pairs_at, within, IsU16, IsI32}
use Rattle.format.specs.Question.{coefficient_in_range, pair_in_range, rising, form_range, fill_coefficients, form_of}
use Rattle.format.specs.Written.{pair_bytes, terms_from, form_bytes, FormInRange}
use Rattle.format.specs.Demands.{Bytes}
use Rattle.format.proofs.Encoded.{length_bytes, length_pair_bytes}
use Rattle.format.proofs.Fields.{length_pairs}
use Rattle.format.proofs.BytesRead.{behind, small_held, i32_back, pairs_back}
use Rattle.format.proofs.BytesWritten.{i32_written, pairs_written}
use Rattle.format.proofs.Sums.{Ranged, ranged}

-- a number that is not 0
some_number : (z : ℤ) → is_zero z ≡ false → 0 < nat_abs z
some_number (pos zero) e = absurd (let z : ◌≡◌ {A = ℕ} 0 1 = cc in omega arith)
some_number (pos (suc n)) e = omega arith
some_number (negsuc n) e = omega arith

not_zero : (z : ℤ) → 0 < nat_abs z → is_zero z ≡ false
not_zero (pos zero) h = absurd (omega arith)
not_zero (pos (suc n)) h = refl
not_zero (negsuc n) h = refl

-- one more in front
abbrev terms_by : ℕ → ℤ → List ℤ → Bool → List (ℕ × ℤ)
terms_by k z zs x = elim x as (λ _. List (ℕ × ℤ)) [ true ↦ terms_from (suc k) zs | false ↦ (k, z) ∷ terms_from (suc k) zs ]

length_more : (first : List ℤ) (z : ℤ) (k : ℕ) → length first ≡ k → length (first ++ (z ∷ [])) ≡ suc k
length_more first z k l = length-append first (z ∷ []) ∙ (let e : length first + 1 ≡ suc k = omega arith in e)

-- ---- of a form's coefficients

-- no coefficient from column c on
abbrev pub NoneFrom : ℕ → ℕ → List ℤ → Type 0
NoneFrom c k zs = (j : ℕ) → c ≤ k + j → get_or zs j (pos 0) ≡ pos 0

none_later : (c k : ℕ) (z : ℤ) (zs : List ℤ) → NoneFrom c k (z ∷ zs) → NoneFrom c (suc k) zs
none_later c k z zs h j l = h (suc j) (omega arith)

few_terms : (k : ℕ) (zs : List ℤ) → length (terms_from k zs) ≤ length zs
unfolding terms_from
few_terms k [] = omega arith
few_terms k (z ∷ zs) = go (is_zero z) (few_terms (suc k) zs)
  where
    go : (x : Bool) → length (terms_from (suc k) zs) ≤ length zs → length (terms_by k z zs x) ≤ suc (length zs)
    go true h = omega arith
    go false h = omega arith

terms_rise : (c low k : ℕ) (zs : List ℤ) → low ≤ k → All (Small number_limit) zs → NoneFrom c k zs → rising c low (terms_from k zs) ≡ true
unfolding terms_from rising
terms_rise c low k [] l h n = refl
terms_rise c low k (z ∷ zs) l (h, hs) n = go (is_zero z) refl (λ low l. terms_rise c low (suc k) zs l hs (none_later c k z zs n))
  where
    column : is_zero z ≡ false → Dec (c ≤ k) → k < c
    column e (no g) = omega arith
    column e (yes g) = absurd (omega (arith, some_number z e, ap nat_abs (n 0 (omega arith))))

    go : (x : Bool) → is_zero z ≡ x → ((low : ℕ) → low ≤ suc k → rising c low (terms_from (suc k) zs) ≡ true) → rising c low (terms_by k z zs x) ≡ true
    go true e later = later low (omega arith)
    go false e later =
        →and_both (pair_in_range c low (k, z)) (rising c (k + 1) (terms_from (suc k) zs))
        (→and_both (leb low k) (ltb k c && coefficient_in_range z) (le-leb low k l)
        (→and_both (ltb k c) (coefficient_in_range z) (lt-ltb k c (column e (dec_le c k)))
        (→and_both (ltb 0 (nat_abs z)) (within number_limit z) (lt-ltb 0 (nat_abs z) (some_number z e)) (le-leb (nat_abs z) number_limit h))))
        (later (k + 1) (omega arith))

-- filled in after the first k columns they are the coefficients again
terms_fill : (first : List ℤ) (k : ℕ) (zs : List ℤ) → length first ≡ k → fill_coefficients (first ++ zeros (length zs)) (terms_from k zs) ≡ first ++ zs
unfolding terms_from fill_coefficients
terms_fill first k [] l = refl
terms_fill first k (z ∷ zs) l = go (is_zero z) refl (λ y. terms_fill (first ++ (y ∷ [])) (suc k) zs (length_more first y k l))
  where
    filled : ℤ → List ℤ
    filled y = first ++ (y ∷ zeros (length zs))

    go : (x : Bool) → is_zero z ≡ x
        → ((y : ℤ) → fill_coefficients ((first ++ (y ∷ [])) ++ zeros (length zs)) (terms_from (suc k) zs) ≡ (first ++ (y ∷ [])) ++ zs)
        → fill_coefficients (filled (pos 0)) (terms_by k z zs x) ≡ first ++ (z ∷ zs)
    go true e later =
        ap (λ row. fill_coefficients row (terms_from (suc k) zs)) (sym (append_snoc first (pos 0) (zeros (length zs))))
        ∙ later (pos 0) ∙ append_snoc first (pos 0) zs ∙ ap (λ y. first ++ (y ∷ zs)) (sym (is_zero→ z (true→ e)))
    go false e later =
        ap (λ row. fill_coefficients row (terms_from (suc k) zs)) (set_at first (pos 0) (zeros (length zs)) z k l ∙ sym (append_snoc first z (zeros (length zs))))
        ∙ later z ∙ append_snoc first z zs

-- ---- of pairs that rise

-- the coefficients of n columns from column k on that pairs give
pub record Spread (c k n : ℕ) (first : List ℤ) (ts : List (ℕ × ℤ)) : Type 0 where
  pub coefficients : List ℤ
  pub filled : fill_coefficients (first ++ zeros n) ts ≡ first ++ coefficients
  pub size : length coefficients ≡ n
  pub terms : terms_from k coefficients ≡ ts
  pub numbers : All (Small number_limit) coefficients
  pub columns : NoneFrom c k coefficients

none_first : (c k : ℕ) (z : ℤ) (zs : List ℤ) → (c ≤ k → z ≡ pos 0) → NoneFrom c (suc k) zs → NoneFrom c k (z ∷ zs)
none_first c k z zs e h zero l = e (omega arith)
none_first c k z zs e h (suc j) l = h j (omega arith)

-- a column without a pair, and one with it
spread_none : (c k n : ℕ) (first : List ℤ) (ts : List (ℕ × ℤ)) → Spread c (suc k) n (first ++ (pos 0 ∷ [])) ts → Spread c k (suc n) first ts
unfolding terms_from
spread_none c k n first ts s = record {
  coefficients = pos 0 ∷ s.coefficients;
  filled =
      ap (λ row. fill_coefficients row ts) (sym (append_snoc first (pos 0) (zeros n))) ∙ s.filled ∙ append_snoc first (pos 0) s.coefficients;
  size = ap suc s.size;
  terms = s.terms;
  numbers = (omega arith, s.numbers);
  columns = none_first c k (pos 0) s.coefficients (λ _. refl) s.columns;
}

spread_one : (c k n : ℕ) (first : List ℤ) (z : ℤ) (ts : List (ℕ × ℤ)) → length first ≡ k → k < c → coefficient_in_range z ≡ true
    → Spread c (suc k) n (first ++ (z ∷ [])) ts → Spread c k (suc n) first ((k, z) ∷ ts)
unfolding terms_from fill_coefficients
spread_one c k n first z ts l h e s =
    let (some, small) = and_both (ltb 0 (nat_abs z)) (within number_limit z) e in
    record {
      coefficients = z ∷ s.coefficients;
      filled =
          ap (λ row. fill_coefficients row ts) (set_at first (pos 0) (zeros n) z k l ∙ sym (append_snoc first z (zeros n)))
          ∙ s.filled ∙ append_snoc first z s.coefficients;
      size = ap suc s.size;
      terms = ap₂ (λ x ts. elim x as (λ _. List (ℕ × ℤ)) [ true ↦ ts | false ↦ (k, z) ∷ ts ]) (not_zero z (ltb-true 0 (nat_abs z) some)) s.terms;
      numbers = (leb-true (nat_abs z) number_limit small, s.numbers);
      columns = none_first c k z s.coefficients (λ g. absurd (omega arith)) s.columns;
    }

-- the first pair has a coefficient, and stands as well after a column that it is past
coefficient : (c low : ℕ) (t : ℕ × ℤ) (ts : List (ℕ × ℤ)) → rising c low (t ∷ ts) ≡ true → coefficient_in_range t.1 ≡ true
unfolding rising
coefficient c low t ts e =
    (and_both (ltb t.0 c) (coefficient_in_range t.1) (and_both (leb low t.0) _ (and_both (pair_in_range c low t) (rising c (t.0 + 1) ts) e).0).1).1

later_low : (c low : ℕ) (t : ℕ × ℤ) (ts : List (ℕ × ℤ)) → rising c low (t ∷ ts) ≡ true → suc low ≤ t.0 → rising c (suc low) (t ∷ ts) ≡ true
unfolding rising
later_low c low t ts e h =
    let (p, rest) = and_both (pair_in_range c low t) (rising c (t.0 + 1) ts) e in
    →and_both (pair_in_range c (suc low) t) (rising c (t.0 + 1) ts)
    (→and_both (leb (suc low) t.0) (ltb t.0 c && coefficient_in_range t.1) (le-leb (suc low) t.0 h)
    (and_both (leb low t.0) (ltb t.0 c && coefficient_in_range t.1) p).1) rest

spread : (c k n : ℕ) (first : List ℤ) (ts : List (ℕ × ℤ)) → length first ≡ k → c ≤ k + n → rising c k ts ≡ true → Spread c k n first ts
unfolding rising terms_from fill_coefficients
spread c k zero first [] l h e = record { coefficients = []; filled = refl; size = refl; terms = refl; numbers = tt; columns = λ j g. refl }
spread c k zero first (t ∷ ts) l h e = let r = ranged c k t ts e in absurd (omega (arith, r.low_enough, r.column))
spread c k (suc n) first [] l h e =
    spread_none c k n first [] (spread c (suc k) n (first ++ (pos 0 ∷ [])) [] (length_more first (pos 0) k l) (omega arith) refl)
spread c k (suc n) first (t ∷ ts) l h e =
    go t (ranged c k t ts e) e (ℕ_discrete t.0 k)
    (λ e. spread c (suc k) n (first ++ (pos 0 ∷ [])) (t ∷ ts) (length_more first (pos 0) k l) (omega arith) e)
    (λ z e. spread c (suc k) n (first ++ (z ∷ [])) ts (length_more first z k l) (omega arith) e)
  where
    go : (t : ℕ × ℤ) → Ranged c k t ts → rising c k (t ∷ ts) ≡ true → Dec (t.0 ≡ k)
        → (rising c (suc k) (t ∷ ts) ≡ true → Spread c (suc k) n (first ++ (pos 0 ∷ [])) (t ∷ ts))
        → ((z : ℤ) → rising c (suc k) ts ≡ true → Spread c (suc k) n (first ++ (z ∷ [])) ts)
        → Spread c k (suc n) first (t ∷ ts)
    go t r e (no d) none one = spread_none c k n first (t ∷ ts) (none (later_low c k t ts e (omega (arith, r.low_enough))))
    go (j, z) r e (yes d) none one =
        subst (λ j. Spread c k (suc n) first ((j, z) ∷ ts)) (sym d)
        (spread_one c k n first z ts l (omega (arith, r.column)) (coefficient c k (j, z) ts e)
        (one z (subst (λ i. rising c i ts ≡ true) (let g : j + 1 ≡ suc k = omega arith in g) r.rest)))

-- ---- forms in bytes

-- the columns of pairs that rise fit a u16, and their coefficients an i32
rising_held : (c low : ℕ) (ts : List (ℕ × ℤ)) → c ≤ column_limit → rising c low ts ≡ true → All (λ t. IsU16 t.0 × IsI32 t.1) ts
rising_held c low [] h e = tt
rising_held c low (t ∷ ts) h e =
    let r = ranged c low t ts e in
    ((omega (arith, r.column), small_held number_limit t.1 (omega arith) r.coefficient), rising_held c (t.0 + 1) ts h r.rest)

-- a form whose bytes stand at a position is read as itself, over c columns
pub record FormRead (b : List ℕ) (c at : ℕ) (e : List ℤ) : Type 0 where
  pub count : ℕ
  pub few : count ≤ column_limit
  pub bytes : length (form_bytes e) ≡ 4 + 6 * count
  pub is_form : form_of b at count ≡ e
  pub is_in_range : form_range b c at count ≡ true

pub form_read : (b : List ℕ) (u : Question) (at : ℕ) (e : List ℤ) (rest : List ℕ)
    → column_count u ≤ column_limit
    → FormInRange u e
    → drop at b ≡ form_bytes e ++ rest
    → FormRead b (column_count u) at e
form_read b u at [] rest h r stands = absurd (omega (arith, r.size))
form_read b u at (z ∷ zs) rest h r stands =
    let ts : List (ℕ × ℤ) = terms_from 0 zs in
    let first : List ℕ = bytes_of 4 (unsigned z) in
    let from : drop at b ≡ first ++ (pair_bytes ts ++ rest) = stands ∙ append_assoc first (pair_bytes ts) rest in
    let rises : rising (column_count u) 0 ts ≡ true =
    terms_rise (column_count u) 0 0 zs (omega arith) r.numbers.1 (λ j l. r.columns j (omega arith)) in
    let constant : i32 b at ≡ z = i32_back b at z (pair_bytes ts ++ rest) (small_held number_limit z (omega arith) r.numbers.0) from in
    let pairs : pairs_at b (at + 4) (length ts) ≡ ts =
    pairs_back b (at + 4) ts rest (rising_held (column_count u) 0 ts h rises)
    (behind b at 4 first (pair_bytes ts ++ rest) (length_bytes 4 (unsigned z)) from) in
    let size : length zs ≡ column_limit = omega (arith, r.size) in
    record {
      count = length ts;
      few = omega (arith, few_terms 0 zs);
      bytes = length-append first (pair_bytes ts) ∙ ap₂ ◌+◌ (length_bytes 4 (unsigned z)) (length_pair_bytes ts);
      is_form =
          ap₂ (λ z ts. z ∷ fill_coefficients (zeros column_limit) ts) constant pairs
          ∙ ap (λ n. z ∷ fill_coefficients (zeros n) ts) (sym size)
          ∙ ap (λ zs. z ∷ zs) (terms_fill [] 0 zs refl);
      is_in_range =
          →and_both (within number_limit (i32 b at)) (rising (column_count u) 0 (pairs_at b (at + 4) (length ts)))
          (ap (within number_limit) constant ∙ le-leb (nat_abs z) number_limit r.numbers.0)
          (ap (rising (column_count u) 0) pairs ∙ rises);
    }

-- a form in its ranges has the bytes that stand there
pub record FormWritten (b : List ℕ) (u : Question) (at count : ℕ) : Type 0 where
  pub bytes : length (form_bytes (form_of b at count)) ≡ 4 + 6 * count
  pub is_in_range : FormInRange u (form_of b at count)
  pub stands : drop at b ≡ form_bytes (form_of b at count) ++ drop (at + 4 + 6 * count) b

pub form_written : (b : List ℕ) → Bytes b → (u : Question) (at count : ℕ)
    → column_count u ≤ column_limit
    → form_range b (column_count u) at count ≡ true
    → at + 4 + 6 * count ≤ length b
    → FormWritten b u at count
form_written b bytes u at count h e l =
    let z : ℤ = i32 b at in
    let ts : List (ℕ × ℤ) = pairs_at b (at + 4) count in
    let (small, rises) = and_both (within number_limit z) (rising (column_count u) 0 ts) e in
    let s = spread (column_count u) 0 column_limit [] ts refl (omega arith) rises in
    let first : List ℕ = bytes_of 4 (unsigned z) in
    let terms : terms_from 0 (fill_coefficients (zeros column_limit) ts) ≡ ts = ap (terms_from 0) s.filled ∙ s.terms in
    let written : form_bytes (form_of b at count) ≡ first ++ pair_bytes ts = ap (λ ts. first ++ pair_bytes ts) terms in
    record {
      bytes =
          ap length written ∙ length-append first (pair_bytes ts)
          ∙ ap₂ ◌+◌ (length_bytes 4 (unsigned z)) (length_pair_bytes ts ∙ ap (λ n. 6 * n) (length_pairs b (at + 4) count));
      is_in_range = subst (λ zs. FormInRange u (z ∷ zs)) (sym s.filled) (record {
        size = ap suc s.size;
        numbers = (leb-true (nat_abs z) number_limit small, s.numbers);
        columns = λ j l. s.columns j (omega arith);
      });
      stands =
          i32_written b bytes at (omega arith)
          ∙ ap (λ xs. first ++ xs) (pairs_written b bytes (at + 4) count l)
          ∙ sym (append_assoc first (pair_bytes ts) (drop (at + 4 + 6 * count) b))
          ∙ ap (λ xs. xs ++ drop (at + 4 + 6 * count) b) (sym written);
    }

-- Counting places that pass a test.
use Rattle.std.proofs.Common.{refl, sym, ap, ◌∙◌, ◌≡◌, ℕ, zero, suc, ◌+◌, ◌-◌, ◌<◌, ◌≤◌, arith, Bool, false, cond, sum_by, zero-add, add-zero}
use Rattle.std.proofs.lemmas.List.{map-id}
use Rattle.std.proofs.lemmas.List.FromFn.{sum_by-map-range_with_len_more}
use Rattle.std.specs.List.{range_with_len}
use Rattle.fx_layout_sweeps.specs.Sweeps.{tally}

pub tally_more : (test : ℕ → Bool) (m : ℕ) → tally test (m + 1) ≡ tally test m + cond (test m) 1 0
tally_more test m =
    let g = λ (x : ℕ). cond (test x) 1 0 in
    sym (ap (sum_by g) (map-id (range_with_len 0 (m + 1))))
    ∙ (sum_by-map-range_with_len_more g (λ x. x) 0 m m (zero-add m)
    ∙ ap (λ n. n + g m) (ap (sum_by g) (map-id (range_with_len 0 m))))

pub tally_same : (test other : ℕ → Bool) (n : ℕ) → ((q : ℕ) → q < n → test q ≡ other q) → tally test n ≡ tally other n
tally_same test other zero same = refl
tally_same test other (suc n) same =
    tally_next test n
    ∙ (ap (λ k. k + cond (test n) 1 0) (tally_same test other n (λ q less. same q (omega (arith, less))))
    ∙ (ap (λ b. tally other n + cond b 1 0) (same n (omega arith)) ∙ sym (tally_next other n)))
  where
    tally_next : (f : ℕ → Bool) (m : ℕ) → tally f (suc m) ≡ tally f m + cond (f m) 1 0
    tally_next f m = let one : suc m ≡ m + 1 = omega arith in ap (tally f) one ∙ tally_more f m

-- places that don't pass aren't counted
pub tally_idle : (test : ℕ → Bool) (m k : ℕ) → ((q : ℕ) → m ≤ q → q < m + k → test q ≡ false) → tally test (m + k) ≡ tally test m
tally_idle test m zero idle = ap (tally test) (add-zero m)
tally_idle test m (suc k) idle =
    let next : m + suc k ≡ m + k + 1 = omega arith in
    let last : test (m + k) ≡ false = idle (m + k) (omega arith) (omega arith) in
    ap (tally test) next
    ∙ (tally_more test (m + k)
    ∙ (ap (λ b. tally test (m + k) + cond b 1 0) last
    ∙ (add-zero (tally test (m + k)) ∙ tally_idle test m k (λ q late early. idle q late (omega (arith, early))))))

pub tally_between : (test : ℕ → Bool) (m n : ℕ) → m ≤ n → ((q : ℕ) → m ≤ q → q < n → test q ≡ false)
    → tally test n ≡ tally test m
tally_between test m n before idle =
    let whole : m + (n - m) ≡ n = omega (arith, before) in
    sym (ap (tally test) whole)
    ∙ tally_idle test m (n - m) (λ q late early. idle q late (omega (arith, early, before)))

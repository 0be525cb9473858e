-- A row of which the front is made and the rest is as it was: one block more, and one place more.
-- Cited by the proofs of all kernels.
use Rattle.std.proofs.Common.{◌≡◌, ℕ, ◌+◌, ◌<◌, ◌≤◌, List, [], ◌∷◌, ◌++◌, length, take, drop, get_or, set, sym, ap, subst, ◌∙◌, arith, append_assoc}
use Rattle.std.proofs.lemmas.List.{append-nil, drop_all, take_at, drop_at, drop-drop, drop_more, set_at, get_or_at, take-append-drop, take-take, drop-take, length-append, length-drop}
use Rattle.std.proofs.lemmas.Simd.{put_chunk_is}
use lib.Lanes.{put_chunk, chunk}

-- row is front, and behind it what old has from i on
pub record Made (old row front : List ℕ) (i : ℕ) : Type 0 where
  pub within : i ≤ length old
  pub long : length front ≡ i
  pub parts : row ≡ front ++ drop i old

made_length : (old row front : List ℕ) (i : ℕ) → Made old row front i → length row ≡ length old
made_length old row front i m =
    let w = m.within in
    let l = m.long in
    ap length m.parts ∙ length-append front (drop i old) ∙ ap (λ n. length front + n) (length-drop i old) ∙ omega arith

pub made_block : (old row front block : List ℕ) (i k : ℕ) → Made old row front i → length block ≡ k → i + k ≤ length old → Made old (put_chunk i row block) (front ++ block) (i + k)
made_block old row front block i k m b h =
    let len = made_length old row front i m in
    let room : i + length block ≤ length row = omega arith in
    let tail : drop i row ≡ drop i old = ap (λ x. drop i x) m.parts ∙ drop_at front (drop i old) i m.long in
    let l = m.long in
    record {
      within = h;
      long = length-append front block ∙ omega arith;
      parts = put_chunk_is i row block room
          ∙ ap (λ x. x ++ (block ++ drop (length block) (drop i row))) (ap (λ x. take i x) m.parts ∙ take_at front (drop i old) i m.long)
          ∙ ap (λ x. front ++ (block ++ drop (length block) x)) tail
          ∙ ap (λ n. front ++ (block ++ drop n (drop i old))) b
          ∙ ap (λ x. front ++ (block ++ x)) (drop-drop k i old)
          ∙ sym (append_assoc front block (drop (i + k) old));
    }

pub made_place : (old row front : List ℕ) (i v : ℕ) → Made old row front i → i < length old → Made old (set row i v) (front ++ v ∷ []) (i + 1)
made_place old row front i v m h =
    let l = m.long in
    record {
      within = omega arith;
      long = length-append front (v ∷ []) ∙ omega arith;
      parts = ap (λ x. set x i v) (m.parts ∙ ap (λ x. front ++ x) (drop_more old i 0 h))
          ∙ set_at front (get_or old i 0) (drop (i + 1) old) v i m.long
          ∙ sym (append_assoc front (v ∷ []) (drop (i + 1) old));
    }

-- what is read is what the row had
pub made_chunk : (old row front : List ℕ) (i k : ℕ) → Made old row front i → chunk i k row ≡ take k (drop i old)
made_chunk old row front i k m = ap (λ x. take k x) (ap (λ x. drop i x) m.parts ∙ drop_at front (drop i old) i m.long)

pub made_read : (old row front : List ℕ) (i : ℕ) → Made old row front i → i < length old → get_or row i 0 ≡ get_or old i 0
made_read old row front i m h =
    ap (λ x. get_or x i 0) (m.parts ∙ ap (λ x. front ++ x) (drop_more old i 0 h)) ∙ get_or_at front (get_or old i 0) (drop (i + 1) old) 0 i m.long

-- the whole row is made
pub made_all : (old row front : List ℕ) (i : ℕ) → Made old row front i → length old ≤ i → row ≡ front
made_all old row front i m h = m.parts ∙ ap (λ x. front ++ x) (drop_all i old h) ∙ append-nil front

-- the same rows, called otherwise
pub made_as : (old row front front' : List ℕ) (i : ℕ) → front ≡ front' → Made old row front i → Made old row front' i
made_as old row front front' i e m = subst (λ x. Made old row x i) e m

-- the first i + k places
pub take-add : (i k : ℕ) (xs : List ℕ) → take (i + k) xs ≡ take i xs ++ take k (drop i xs)
take-add i k xs =
    sym (take-append-drop i (take (i + k) xs))
    ∙ ap (λ x. x ++ drop i (take (i + k) xs)) (take-take i (i + k) xs (omega arith))
    ∙ ap (λ x. take i xs ++ x) (drop-take i k xs)

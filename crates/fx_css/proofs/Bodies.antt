-- A body that is read piece by piece: what is kept of the first pieces, and of the rest, is what is kept of all.
-- Below the answers on declarations.
use Rattle.std.proofs.Common.{◌≡◌, ℕ, ◌+◌, ◌≤◌, Bool, true, false, cond, not, List, [], ◌∷◌, ◌++◌, suc, map, length, take, refl, sym, ◌∙◌, ap, subst, arith, append_assoc, append-nil, Result, Ok, Err, IfErr}
use Rattle.std.proofs.Math.Seq.{take-length}
use Rattle.std.proofs.Math.ListN.{drop_of_length-le}
use Rattle.std.proofs.lemmas.Bool.{ltb-true, ltb-false}
use Rattle.std.proofs.lemmas.List.Sums.{prefix_len-le-length}
use lib.Dec.{ltb}
use Rattle.std.specs.Bool.{nat_le}
use Rattle.std.proofs.lemmas.List.{length-map, map-append}
use Rattle.std.proofs.lemmas.List.Splits.{slice_split_first}
use Rattle.std.specs.Result.{IsErrAnd}
use Rattle.std.specs.Bool.{if◌then◌else◌}
use Rattle.std.specs.List.{slice_split, flat_map, position_or_len, before_first, after_first}
use Rattle.std.specs.Option.{option_to_list}
use Rattle.fx_css_types.specs.declared.declarations.Declaration.{Declaration}
use Rattle.fx_css.specs.declared.parts.Numbered.{Numbered}
use Rattle.fx_css.specs.declared.errors.Stop.{Stop}
use Rattle.fx_css.specs.declared.errors.Stop.TheVariants.{Past, Memory}
use Rattle.fx_css.specs.declared.declarations.Kept.{Kept}
use Rattle.fx_css.specs.declared.declarations.Piece.{Piece}
use Rattle.fx_css.specs.Pieces.{ends_declaration, piece_of, kept, warned, kept_in, warnings_in, past_declarations}
use Rattle.fx_css.specs.Sheets.{IsStop}

pub suc_same : (a b : ℕ) → suc a ≡ 1 + b → a ≡ b
suc_same a b e = omega arith

pub no_suc : (a : ℕ) → 0 ≡ suc a → ⊥
no_suc a e = omega arith

-- where nothing passes, the list is the one part
part_more : {X : Type 0} (p : X → Bool) (x : X) (xs : List X) (b : Bool) → p x ≡ b → position_or_len p (x ∷ xs) ≡ length (x ∷ xs) → (position_or_len p xs ≡ length xs → slice_split p xs ≡ xs ∷ []) → slice_split p (x ∷ xs) ≡ (x ∷ xs) ∷ []
part_more p x xs true f e go = absurd (let g : 0 ≡ suc (length xs) = sym (ap (λ y. cond (not y) (1 + position_or_len p xs) 0) f) ∙ e in no_suc (length xs) g)
part_more p x xs false f e go =
    let g : suc (length xs) ≡ 1 + position_or_len p xs = sym e ∙ ap (λ y. cond (not y) (1 + position_or_len p xs) 0) f in
    let h : slice_split p xs ≡ xs ∷ [] = go (sym (suc_same (length xs) (position_or_len p xs) g)) in
    rw (f, h) refl

one_part : {X : Type 0} (p : X → Bool) (xs : List X) → position_or_len p xs ≡ length xs → slice_split p xs ≡ xs ∷ []
one_part p [] e = refl
one_part p (x ∷ xs) e = part_more p x xs (p x) refl e (one_part p xs)

-- the first part by itself
split_step : {X A : Type 0} (p : X → Bool) (f : List X → List A) (xs : List X) (d : X) (b : Bool) → f [] ≡ [] → ltb (position_or_len p xs) (length xs) ≡ b → flat_map f (slice_split p xs) ≡ f (before_first p xs) ++ flat_map f (slice_split p (after_first p xs))
split_step p f xs d true z e = ap (λ y. flat_map f y) (slice_split_first p xs d (ltb-true (position_or_len p xs) (length xs) e))
split_step p f xs d false z e =
    let low : length xs ≤ position_or_len p xs = ltb-false (position_or_len p xs) (length xs) e in
    let high : position_or_len p xs ≤ length xs = prefix_len-le-length (λ x. not (p x)) xs in
    let g : position_or_len p xs ≡ length xs = omega arith in
    let before : before_first p xs ≡ xs = ap (λ y. take y xs) g ∙ take-length xs in
    let far : length xs ≤ position_or_len p xs + 1 = omega arith in
    let after : after_first p xs ≡ [] = drop_of_length-le xs far in
    ap (λ y. flat_map f y) (one_part p xs g)
    ∙ sym (ap (λ y. f y ++ flat_map f (slice_split p (after_first p xs))) before ∙ (ap (λ y. f xs ++ flat_map f (slice_split p y)) after ∙ ap (λ y. f xs ++ (y ++ [])) z))

nothing_kept : kept (piece_of []) ≡ []
unfolding piece_of
nothing_kept = refl

nothing_warned : warned (piece_of []) ≡ []
unfolding piece_of
nothing_warned = refl

-- the first piece of a body that is not empty, and what is behind it
abbrev pub first_piece : List Numbered → Piece
first_piece ms = piece_of (before_first ends_declaration ms)

kept_step : (ms : List Numbered) → kept_in ms ≡ kept (first_piece ms) ++ kept_in (after_first ends_declaration ms)
unfolding kept_in piece_of
kept_step [] = refl
kept_step (m ∷ ms) = split_step ends_declaration (λ x. kept (piece_of x)) (m ∷ ms) m (ltb (position_or_len ends_declaration (m ∷ ms)) (length (m ∷ ms))) nothing_kept refl

warnings_step : (ms : List Numbered) → warnings_in ms ≡ warned (first_piece ms) ++ warnings_in (after_first ends_declaration ms)
unfolding warnings_in piece_of
warnings_step [] = refl
warnings_step (m ∷ ms) = split_step ends_declaration (λ x. warned (piece_of x)) (m ∷ ms) m (ltb (position_or_len ends_declaration (m ∷ ms)) (length (m ∷ ms))) nothing_warned refl

kept_none : kept_in [] ≡ []
unfolding kept_in piece_of
kept_none = refl

warnings_none : warnings_in [] ≡ []
unfolding warnings_in piece_of
warnings_none = refl

-- what is past a limit

suc_plus : (n k : ℕ) → suc n + k ≡ n + suc k
suc_plus n k = omega arith

pub past_append : (n : ℕ) (xs ys : List Kept) → past_declarations n (xs ++ ys) ≡ past_declarations n xs ++ past_declarations (n + length xs) ys
past_append n [] ys = ap (λ y. past_declarations y ys) (let z : n ≡ n + 0 = omega arith in z)
past_append n (k ∷ xs) ys =
    let here : List ℕ = if nat_le 256 n then k.start ∷ [] else [] in
    ap (λ y. here ++ (option_to_list k.past ++ y)) (past_append (suc n) xs ys ∙ ap (λ y. past_declarations (suc n) xs ++ past_declarations y ys) (suc_plus n (length xs)))
    ∙ sym (append_assoc here (option_to_list k.past ++ past_declarations (suc n) xs) (past_declarations (n + length (k ∷ xs)) ys)
    ∙ ap (λ y. here ++ y) (append_assoc (option_to_list k.past) (past_declarations (suc n) xs) (past_declarations (n + length (k ∷ xs)) ys)))

pub first_more : (ps qs : List ℕ) (e : Stop) → IsStop ps e → IsStop (ps ++ qs) e
first_more ps qs Memory h = tt
first_more [] qs (Past n) h = absurd h
first_more (p ∷ ps) qs (Past n) h = h

-- so far

pub record IsSoFar (declarations : List Declaration) (warnings old : List ℕ) (rest body : List Numbered) : Type 0 where
  pub done : List Kept
  pub are_kept : declarations ≡ map (λ k. k.declaration) done
  pub within : past_declarations 0 done ≡ []
  pub whole : kept_in body ≡ done ++ kept_in rest
  pub dropped : warnings ++ warnings_in rest ≡ old ++ warnings_in body

-- what is past a limit in the next pieces, in all
past_in_all : (declarations : List Declaration) (done more all : List Kept) → declarations ≡ map (λ k. k.declaration) done → past_declarations 0 done ≡ [] → all ≡ done ++ more → past_declarations 0 all ≡ past_declarations (length declarations) more
past_in_all declarations done more all e w f =
    let k : length declarations ≡ length done = ap length e ∙ length-map done (λ k. k.declaration) in
    let n : 0 + length done ≡ length declarations = omega arith in
    ap (λ y. past_declarations 0 y) f ∙ (past_append 0 done more ∙ (ap (λ y. y ++ past_declarations (0 + length done) more) w ∙ ap (λ y. past_declarations y more) n))

pub so_far_more : (ds ds' : List Declaration) (ws ws' old : List ℕ) (rest rest' body : List Numbered) → IsSoFar ds ws old rest body → rest' ≡ after_first ends_declaration rest → ds' ≡ ds ++ map (λ k. k.declaration) (kept (first_piece rest)) → ws' ≡ ws ++ warned (first_piece rest) → past_declarations (length ds) (kept (first_piece rest)) ≡ [] → IsSoFar ds' ws' old rest' body
so_far_more ds ds' ws ws' old rest rest' body s r e f w =
    let more : List Kept = kept (first_piece rest) in
    record {
      done = s.done ++ more;
      are_kept = e ∙ (ap (λ y. y ++ map (λ k. k.declaration) more) s.are_kept ∙ sym (map-append (λ k. k.declaration) s.done more));
      within = past_in_all ds s.done more (s.done ++ more) s.are_kept s.within refl ∙ w;
      whole = s.whole ∙ (ap (λ y. s.done ++ y) (kept_step rest ∙ ap (λ y. more ++ kept_in y) (sym r)) ∙ sym (append_assoc s.done more (kept_in rest')));
      dropped = ap (λ y. y ++ warnings_in rest') f ∙ (append_assoc ws (warned (first_piece rest)) (warnings_in rest') ∙ (ap (λ y. ws ++ y) (sym (warnings_step rest ∙ ap (λ y. warned (first_piece rest) ++ warnings_in y) (sym r))) ∙ s.dropped));
    }

pub so_far_stops : (ds : List Declaration) (ws old : List ℕ) (rest body : List Numbered) (e : Stop) → IsSoFar ds ws old rest body → IsStop (past_declarations (length ds) (kept (first_piece rest))) e → IsStop (past_declarations 0 (kept_in body)) e
so_far_stops ds ws old rest body e s h =
    let more : List Kept = kept (first_piece rest) in
    let left : List Kept = kept_in (after_first ends_declaration rest) in
    subst (λ y. IsStop y e)
    (sym (past_in_all ds s.done (more ++ left) (kept_in body) s.are_kept s.within (s.whole ∙ ap (λ y. s.done ++ y) (kept_step rest)) ∙ past_append (length ds) more left))
    (first_more (past_declarations (length ds) more) (past_declarations (length ds + length more) left) e h)

none_left : (rest : List Numbered) → length rest ≡ 0 → rest ≡ []
none_left [] e = refl
none_left (m ∷ rest) e = absurd (no_suc (length rest) (sym e))

pub so_far_kept : (ds : List Declaration) (ws old : List ℕ) (rest body : List Numbered) → IsSoFar ds ws old rest body → length rest ≡ 0 → ds ≡ map (λ k. k.declaration) (kept_in body)
so_far_kept ds ws old rest body s e =
    s.are_kept ∙ sym (ap (λ y. map (λ k. k.declaration) y) (s.whole ∙ (ap (λ y. s.done ++ y) (ap kept_in (none_left rest e) ∙ kept_none) ∙ append-nil s.done)))

pub so_far_dropped : (ds : List Declaration) (ws old : List ℕ) (rest body : List Numbered) → IsSoFar ds ws old rest body → length rest ≡ 0 → ws ≡ old ++ warnings_in body
so_far_dropped ds ws old rest body s e =
    sym (ap (λ y. ws ++ y) (ap warnings_in (none_left rest e) ∙ warnings_none) ∙ append-nil ws) ∙ s.dropped

pub so_far_within : (ds : List Declaration) (ws old : List ℕ) (rest body : List Numbered) → IsSoFar ds ws old rest body → length rest ≡ 0 → past_declarations 0 (kept_in body) ≡ []
so_far_within ds ws old rest body s e =
    ap (λ y. past_declarations 0 y) (s.whole ∙ (ap (λ y. s.done ++ y) (ap kept_in (none_left rest e) ∙ kept_none) ∙ append-nil s.done)) ∙ s.within

-- an error that is passed on
pub passed : {A : Type 0} (ps : List ℕ) (r : Result A Stop) (e : Stop) → IsErrAnd r (λ y. y ≡ e) → IsStop ps e → IfErr r (IsStop ps)
passed ps (Ok x) e h p = absurd h
passed ps (Err y) e h p = subst (IsStop ps) (sym h) p

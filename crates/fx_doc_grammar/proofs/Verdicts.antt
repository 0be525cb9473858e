-- Each text has one answer at most: the first limit that it passes, the end of its longest prefix, or what is read.
-- The public law rests on this.
use Rattle.std.proofs.Common.{◌≡◌, ℕ, ◌+◌, ◌≤◌, List, [], ◌∷◌, ◌++◌, suc, length, refl, sym, ◌∙◌, ap, subst, append_assoc, append-nil, length-append, arith}
use Rattle.fx_base.specs.Positions.{start, after_all}
use Rattle.fx_doc_grammar.specs.Grammar.{Begins, Reading}
use Rattle.fx_doc_grammar.specs.Machine.{State, Naming, sign_position}
use Rattle.fx_doc_grammar.specs.Beginnings.{PassesDepth, PassesLength, IsTooDeep, IsTooLong, IsStopped}
use Rattle.fx_doc_grammar.specs.Verdicts.{Verdict, Reads, Stops, Deep, Long, IsVerdict}
use Rattle.fx_doc_grammar.proofs.Steps.{some_same}
use Rattle.fx_doc_grammar.proofs.Written.{one_document}
use Rattle.fx_doc_grammar.proofs.Prefixes.{viable}
use Rattle.fx_doc_grammar.proofs.Bounds.{deep_state, long_state, deep_not_within, long_not_within}
use Rattle.fx_doc_grammar.proofs.Signs.{length_place, depth_place, not_both}
use Rattle.fx_base.specs.declared.positions.Position.{Position}

-- two splits of one text

prefix_of : (a b c d : List ℕ) → a ++ b ≡ c ++ d → length a ≤ length c → (z : List ℕ) × (c ≡ a ++ z)
prefix_of [] b c d e h = (c, refl)
prefix_of (x ∷ a) b [] d e h = absurd (let g : suc (length a) ≤ 0 = h in omega arith)
prefix_of (x ∷ a) b (y ∷ c) d e h =
    let g : x ∷ (a ++ b) ≡ y ∷ (c ++ d) = e in
    let t : a ++ b ≡ c ++ d = cc in
    let f : y ≡ x = cc in
    let r = prefix_of a b c d t (let k : suc (length a) ≤ suc (length c) = h in omega arith) in
    (r.0, ap (λ z. z ∷ c) f ∙ ap (λ z. x ∷ z) r.1)

pub data Compared (f : List ℕ) (c : ℕ) (g : List ℕ) (d : ℕ) : Type 0 where
  Same : f ≡ g → c ≡ d → Compared f c g d
  Longer : (z : List ℕ) → f ≡ (g ++ (d ∷ [])) ++ z → Compared f c g d
  Shorter : (z : List ℕ) → g ≡ (f ++ (c ∷ [])) ++ z → Compared f c g d

grown : (x y : ℕ) (f g : List ℕ) (c d : ℕ) → x ≡ y → Compared f c g d → Compared (x ∷ f) c (y ∷ g) d
grown x y f g c d e (Same h k) = Same (ap (λ z. z ∷ f) e ∙ ap (λ z. y ∷ z) h) k
grown x y f g c d e (Longer z h) = Longer z (ap (λ w. w ∷ f) e ∙ ap (λ w. y ∷ w) h)
grown x y f g c d e (Shorter z h) = Shorter z (ap (λ w. w ∷ g) (sym e) ∙ ap (λ w. x ∷ w) h)

compare : (f : List ℕ) (c : ℕ) (m : List ℕ) (g : List ℕ) (d : ℕ) (n : List ℕ) → f ++ (c ∷ m) ≡ g ++ (d ∷ n) → Compared f c g d
compare [] c m [] d n e = let h : c ∷ m ≡ d ∷ n = e in let k : c ≡ d = cc in Same refl k
compare [] c m (y ∷ g) d n e = let h : c ∷ m ≡ y ∷ (g ++ (d ∷ n)) = e in let k : y ≡ c = cc in Shorter g (ap (λ w. w ∷ g) k)
compare (x ∷ f) c m [] d n e = let h : x ∷ (f ++ (c ∷ m)) ≡ d ∷ n = e in let k : x ≡ d = cc in Longer f (ap (λ w. w ∷ f) k)
compare (x ∷ f) c m (y ∷ g) d n e =
    let h : x ∷ (f ++ (c ∷ m)) ≡ y ∷ (g ++ (d ∷ n)) = e in
    let k : x ≡ y = cc in
    let t : f ++ (c ∷ m) ≡ g ++ (d ∷ n) = cc in
    grown x y f g c d k (compare f c m g d n t)

naming_same : (p q : Position) (m n : List ℕ) → Naming p m ≡ Naming q n → p ≡ q
naming_same p q m n e = cc

deep_same : (text : List ℕ) (p q : Position) → PassesDepth text p → PassesDepth text q → p ≡ q
deep_same text p q x y =
    let a = depth_place text p x in
    let b = depth_place text q y in
    naming_same p q a.1 b.1 (sym a.3 ∙ (ap (λ (s : State). s.mode) (some_same (sym a.2 ∙ b.2)) ∙ b.3))

long_same : (front : List ℕ) (c : ℕ) (p q : Position) → PassesLength (front ++ (c ∷ [])) p → PassesLength (front ++ (c ∷ [])) q → p ≡ q
long_same front c p q x y =
    let a = length_place front c p x in
    let b = length_place front c q y in
    a.2 ∙ (ap (λ (s : State). sign_position (after_all start front) s.mode) (some_same (sym a.1 ∙ b.1)) ∙ sym b.2)

deep_deep : (text : List ℕ) (p q : Position) (x : IsTooDeep text p) (y : IsTooDeep text q) → Compared x.front x.last y.front y.last → p ≡ q
deep_deep text p q x y (Same e f) = deep_same (y.front ++ (y.last ∷ [])) p q (subst (λ z. PassesDepth z p) (ap (λ z. z ++ (x.last ∷ [])) e ∙ ap (λ z. y.front ++ (z ∷ [])) f) x.passes) y.passes
deep_deep text p q x y (Longer z e) = absurd ((x.before (y.front ++ (y.last ∷ [])) z q e).0 y.passes)
deep_deep text p q x y (Shorter z e) = absurd ((y.before (x.front ++ (x.last ∷ [])) z p e).0 x.passes)

long_long : (text : List ℕ) (p q : Position) (x : IsTooLong text p) (y : IsTooLong text q) → Compared x.front x.last y.front y.last → p ≡ q
long_long text p q x y (Same e f) = long_same y.front y.last p q (subst (λ z. PassesLength z p) (ap (λ z. z ++ (x.last ∷ [])) e ∙ ap (λ z. y.front ++ (z ∷ [])) f) x.passes) y.passes
long_long text p q x y (Longer z e) = absurd ((x.before (y.front ++ (y.last ∷ [])) z q e).1 y.passes)
long_long text p q x y (Shorter z e) = absurd ((y.before (x.front ++ (x.last ∷ [])) z p e).1 x.passes)

deep_long : (text : List ℕ) (p q : Position) (x : IsTooDeep text p) (y : IsTooLong text q) → Compared x.front x.last y.front y.last → ⊥
deep_long text p q x y (Same e f) =
    let d = not_both y.front y.last p q (subst (λ z. PassesDepth z p) (ap (λ z. z ++ (x.last ∷ [])) e ∙ ap (λ z. y.front ++ (z ∷ [])) f) x.passes) y.passes in
    (y.before y.front [] d.0 (sym (append-nil y.front))).0 d.1
deep_long text p q x y (Longer z e) = (x.before (y.front ++ (y.last ∷ [])) z q e).1 y.passes
deep_long text p q x y (Shorter z e) = (y.before (x.front ++ (x.last ∷ [])) z p e).0 x.passes

shifted : (front more : List ℕ) (c : ℕ) (text : List ℕ) → text ≡ front ++ (c ∷ more) → text ≡ (front ++ (c ∷ [])) ++ more
shifted front more c text e = e ∙ sym (append_assoc front (c ∷ []) more)

-- a limit that is passed is passed within the longest prefix
reached : (text : List ℕ) (p : Position) (x : IsStopped text p) (front : List ℕ) (c : ℕ) (more : List ℕ) → text ≡ front ++ (c ∷ more) → Begins (front ++ (c ∷ [])) → (z : List ℕ) × (x.markup.front ≡ (front ++ (c ∷ [])) ++ z)
reached text p x front c more e b =
    prefix_of (front ++ (c ∷ [])) more x.markup.front x.markup.rest (sym (shifted front more c text e) ∙ x.markup.split) (x.markup.longest (front ++ (c ∷ [])) more (shifted front more c text e) b)

stop_deep : (text : List ℕ) (p q : Position) → IsStopped text p → IsTooDeep text q → ⊥
stop_deep text p q x y =
    let s = deep_state (y.front ++ (y.last ∷ [])) q y.passes in
    let z = reached text p x y.front y.last y.more y.split (viable (y.front ++ (y.last ∷ [])) s.0 s.1) in
    (x.within (y.front ++ (y.last ∷ [])) z.0 q z.1).0 y.passes

stop_long : (text : List ℕ) (p q : Position) → IsStopped text p → IsTooLong text q → ⊥
stop_long text p q x y =
    let s = long_state (y.front ++ (y.last ∷ [])) q y.passes in
    let z = reached text p x y.front y.last y.more y.split (viable (y.front ++ (y.last ∷ [])) s.0 s.1) in
    (x.within (y.front ++ (y.last ∷ [])) z.0 q z.1).1 y.passes

no_more : (a z : List ℕ) → length (a ++ z) ≤ length a → z ≡ []
no_more a [] h = refl
no_more a (c ∷ z) h = absurd (let g : length (a ++ (c ∷ z)) ≡ length a + suc (length z) = length-append a (c ∷ z) in omega arith)

stop_stop : (text : List ℕ) (p q : Position) → IsStopped text p → IsStopped text q → p ≡ q
stop_stop text p q x y =
    let a = x.markup in
    let b = y.markup in
    let l = b.longest a.front a.rest a.split a.begins in
    let k = a.longest b.front b.rest b.split b.begins in
    let z = prefix_of a.front a.rest b.front b.rest (sym a.split ∙ b.split) l in
    let n : z.0 ≡ [] = no_more a.front z.0 (subst (λ w. length w ≤ length a.front) z.1 k) in
    let e : b.front ≡ a.front = z.1 ∙ (ap (λ w. a.front ++ w) n ∙ append-nil a.front) in
    a.position ∙ (ap (after_all start) (sym e) ∙ sym b.position)

pub one_verdict : (text : List ℕ) (a b : Verdict) → IsVerdict text a → IsVerdict text b → a ≡ b
one_verdict text (Reads m) (Reads n) x y = ap (λ (z : Reading). Reads z) (one_document text m n x.0 y.0)
one_verdict text (Reads m) (Stops q) x y = absurd (y.markup.nothing m x.0)
one_verdict text (Reads m) (Deep q) x y = absurd (deep_not_within text q y x.1)
one_verdict text (Reads m) (Long q) x y = absurd (long_not_within text q y x.1)
one_verdict text (Stops p) (Reads n) x y = absurd (x.markup.nothing n y.0)
one_verdict text (Stops p) (Stops q) x y = ap (λ (z : Position). Stops z) (stop_stop text p q x y)
one_verdict text (Stops p) (Deep q) x y = absurd (stop_deep text p q x y)
one_verdict text (Stops p) (Long q) x y = absurd (stop_long text p q x y)
one_verdict text (Deep p) (Reads n) x y = absurd (deep_not_within text p x y.1)
one_verdict text (Deep p) (Stops q) x y = absurd (stop_deep text q p y x)
one_verdict text (Deep p) (Deep q) x y = ap (λ (z : Position). Deep z) (deep_deep text p q x y (compare x.front x.last x.more y.front y.last y.more (sym x.split ∙ y.split)))
one_verdict text (Deep p) (Long q) x y = absurd (deep_long text p q x y (compare x.front x.last x.more y.front y.last y.more (sym x.split ∙ y.split)))
one_verdict text (Long p) (Reads n) x y = absurd (long_not_within text p x y.1)
one_verdict text (Long p) (Stops q) x y = absurd (stop_long text q p y x)
one_verdict text (Long p) (Deep q) x y = absurd (deep_long text q p y x (compare y.front y.last y.more x.front x.last x.more (sym y.split ∙ x.split)))
one_verdict text (Long p) (Long q) x y = ap (λ (z : Position). Long z) (long_long text p q x y (compare x.front x.last x.more y.front y.last y.more (sym x.split ∙ y.split)))

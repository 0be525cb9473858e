-- Tokens have the form of an expression just where they spell a tree at some depth.
use Rattle.std.proofs.Common.{◌≡◌, ◌≢◌, ◌<◌, ◌≤◌, ◌+◌, ◌-◌, ℕ, Bool, true, false, List, [], ◌∷◌, ◌++◌, zero, suc, length, refl, ap, sym, ◌∙◌, subst, arith, inl, inr, None, Some, append_assoc, lit<}
use Rattle.std.proofs.lemmas.Bool.Decides.{eqb_tells}
use Rattle.std.proofs.lemmas.List.{append-nil}
use Rattle.fx_expr.specs.declared.tree.UnarySign.TheVariants as unary
use Rattle.fx_expr.specs.declared.tree.BinarySign.{BinarySign}
use Rattle.fx_expr.specs.declared.tree.BinarySign.TheVariants as binary
use Rattle.fx_expr.specs.declared.tokens.Token.{Token}
use Rattle.fx_expr.specs.declared.tokens.Token.TheVariants.{Constant, Path, Opening, Closing, Exclamation, Binary}
use Rattle.fx_expr.specs.Operands.{place_in}
use Rattle.fx_expr.specs.Tree.{Tree, Leaf, Place, One, Two}
use Rattle.fx_expr.specs.Grammar.{Spells, constant, operand, minus, negation, parens, stronger, group, operator_of}
use Rattle.fx_expr.specs.Form.{has_form, is_minus, and_if}

closing_form : (n : ℕ) (ts : List Token) → has_form false (n + 1) (Closing ∷ ts) ≡ has_form false n ts
closing_form n ts =
    let e : n + 1 - 1 ≡ n = omega arith in
    (elim (eqb_tells (n + 1) 0) [ inl t ↦ absurd (omega (arith, t.1)) | inr t ↦ rw (t.0, e) refl ])

operator_form : (m n : ℕ) (o : Token) (sign : BinarySign) (ts : List Token) → operator_of m o ≡ Some sign → has_form false n (o ∷ ts) ≡ has_form true n ts
operator_form m n (Binary s) sign ts e = refl
operator_form m n (Constant v) sign ts e = absurd (let no : None ≡ Some sign = e in cc)
operator_form m n (Path names) sign ts e = absurd (let no : None ≡ Some sign = e in cc)
operator_form m n Opening sign ts e = absurd (let no : None ≡ Some sign = e in cc)
operator_form m n Closing sign ts e = absurd (let no : None ≡ Some sign = e in cc)
operator_form m n Exclamation sign ts e = absurd (let no : None ≡ Some sign = e in cc)

-- what spells a tree is an operand of the form
spelled_form : (paths : List (List (List ℕ))) (d m : ℕ) (ts : List Token) (x : Tree) → Spells paths d m ts x → (n : ℕ) (r : List Token) → has_form true n (ts ++ r) ≡ has_form false n r
spelled_form paths d m ts x (constant e v) n r = refl
spelled_form paths d m ts x (operand e names) n r = refl
spelled_form paths d m ts x (minus e us y s) n r = spelled_form paths e zero us y s n r
spelled_form paths d m ts x (negation e us y s) n r = spelled_form paths e zero us y s n r
spelled_form paths d m ts x (parens e us y s) n r =
    let grouped : (us ++ (Closing ∷ [])) ++ r ≡ us ++ (Closing ∷ r) = simp append_assoc in
    ap (λ ts. has_form true (n + 1) ts) grouped ∙ (spelled_form paths e 6 us y s (n + 1) (Closing ∷ r) ∙ closing_form n r)
spelled_form paths d m ts x (stronger e k us y s) n r = spelled_form paths e k us y s n r
spelled_form paths d m ts x (group e k ls rs o sign y z sl i sr) n r =
    let grouped : (ls ++ (o ∷ rs)) ++ r ≡ ls ++ (o ∷ (rs ++ r)) = simp append_assoc in
    ap (λ ts. has_form true n ts) grouped
    ∙ (spelled_form paths e (suc k) ls y sl n (o ∷ (rs ++ r))
    ∙ (operator_form (suc k) n o sign (rs ++ r) i ∙ spelled_form paths e k rs z sr n r))

pub form_of_spelled : (paths : List (List (List ℕ))) (d : ℕ) (ts : List Token) (x : Tree) → Spells paths d 6 ts x → has_form true 0 ts ≡ true
form_of_spelled paths d ts x s = ap (λ us. has_form true 0 us) (sym (append-nil ts)) ∙ spelled_form paths d 6 ts x s 0 []

-- more room for nesting
deeper : (paths : List (List (List ℕ))) (d m : ℕ) (ts : List Token) (x : Tree) → Spells paths d m ts x → (f : ℕ) → d ≤ f → Spells paths f m ts x
deeper paths d m ts x (constant e v) f h = constant f v
deeper paths d m ts x (operand e names) f h = operand f names
deeper paths d m ts x (minus e us y s) zero h = absurd (omega arith)
deeper paths d m ts x (minus e us y s) (suc f) h = minus f us y (deeper paths e zero us y s f (omega arith))
deeper paths d m ts x (negation e us y s) zero h = absurd (omega arith)
deeper paths d m ts x (negation e us y s) (suc f) h = negation f us y (deeper paths e zero us y s f (omega arith))
deeper paths d m ts x (parens e us y s) zero h = absurd (omega arith)
deeper paths d m ts x (parens e us y s) (suc f) h = parens f us y (deeper paths e 6 us y s f (omega arith))
deeper paths d m ts x (stronger e k us y s) f h = stronger f k us y (deeper paths e k us y s f h)
deeper paths d m ts x (group e k ls rs o sign y z sl i sr) f h = group f k ls rs o sign y z (deeper paths e (suc k) ls y sl f h) i (deeper paths e k rs z sr f h)

-- some tree of this level
pub record Some_at (paths : List (List (List ℕ))) (d m : ℕ) (ts : List Token) : Type 0 where
  pub meant : Tree
  pub spelled : Spells paths d m ts meant

lifted : (paths : List (List (List ℕ))) (d m : ℕ) (ts : List Token) (x : Tree) → Spells paths d 0 ts x → Spells paths d m ts x
lifted paths d zero ts x s = s
lifted paths d (suc m) ts x s = stronger d m ts x (lifted paths d m ts x s)

-- an operand more at the end, behind a sign of a strength up to this level
appended : (paths : List (List (List ℕ))) (d m : ℕ) (ts : List Token) (x : Tree) → Spells paths d m ts x → (k : ℕ) (o : Token) (sign : BinarySign) (rs : List Token) (y : Tree) → k < m → operator_of (suc k) o ≡ Some sign
    → Spells paths d 0 rs y → Some_at paths d m (ts ++ (o ∷ rs))
appended paths d m ts x (constant e v) k o sign rs y below i r = absurd (omega arith)
appended paths d m ts x (operand e names) k o sign rs y below i r = absurd (omega arith)
appended paths d m ts x (minus e us z s) k o sign rs y below i r = absurd (omega arith)
appended paths d m ts x (negation e us z s) k o sign rs y below i r = absurd (omega arith)
appended paths d m ts x (parens e us z s) k o sign rs y below i r = absurd (omega arith)
appended paths d m ts x (stronger e j us z s) k o sign rs y below i r = elim (eqb_tells k j) [
  | inl t ↦ record { meant = Two sign z y; spelled = group e j us rs o sign z y (stronger e j us z s) (subst (λ n. operator_of (suc n) o ≡ Some sign) t.1 i) (lifted paths e j rs y r) }
  | inr t ↦
      let inner = appended paths e j us z s k o sign rs y (omega (arith, t.1)) i r in
      record { meant = inner.meant; spelled = stronger e j (us ++ (o ∷ rs)) inner.meant inner.spelled }
]
appended paths d m ts x (group e j ls ms p sign' a b sl i' sm) k o sign rs y below i r = elim (eqb_tells k j) [
  | inl t ↦ record { meant = Two sign (Two sign' a b) y; spelled = group e j (ls ++ (p ∷ ms)) rs o sign (Two sign' a b) y (group e j ls ms p sign' a b sl i' sm) (subst (λ n. operator_of (suc n) o ≡ Some sign) t.1 i) (lifted paths e j rs y r) }
  | inr t ↦
      let inner = appended paths e j ms b sm k o sign rs y (omega (arith, t.1)) i r in
      let grouped : ls ++ (p ∷ (ms ++ (o ∷ rs))) ≡ (ls ++ (p ∷ ms)) ++ (o ∷ rs) = simp append_assoc in
      record { meant = Two sign' a inner.meant; spelled = subst (λ us. Spells paths e (suc j) us (Two sign' a inner.meant)) grouped (group e j ls (ms ++ (o ∷ rs)) p sign' a inner.meant sl i' inner.spelled) }
]

-- each sign has one of the six strengths
record Strong (o : Token) (sign : BinarySign) : Type 0 where
  pub level : ℕ
  pub few : level < 6
  pub is : operator_of (suc level) o ≡ Some sign

strong : (sign : BinarySign) → Strong (Binary sign) sign
strong binary.Times = record { level = 0; few = lit< tt; is = refl }
strong binary.Over = record { level = 0; few = lit< tt; is = refl }
strong binary.Rest = record { level = 0; few = lit< tt; is = refl }
strong binary.Plus = record { level = 1; few = lit< tt; is = refl }
strong binary.Minus = record { level = 1; few = lit< tt; is = refl }
strong binary.Greater = record { level = 2; few = lit< tt; is = refl }
strong binary.GreaterEqual = record { level = 2; few = lit< tt; is = refl }
strong binary.Less = record { level = 2; few = lit< tt; is = refl }
strong binary.LessEqual = record { level = 2; few = lit< tt; is = refl }
strong binary.Equal = record { level = 3; few = lit< tt; is = refl }
strong binary.Differ = record { level = 3; few = lit< tt; is = refl }
strong binary.And = record { level = 4; few = lit< tt; is = refl }
strong binary.Or = record { level = 5; few = lit< tt; is = refl }

-- an operand at the front, and what is behind it goes on
record Operand_front (paths : List (List (List ℕ))) (n : ℕ) (ts : List Token) : Type 0 where
  pub used : List Token
  pub rest : List Token
  pub parts : ts ≡ used ++ rest
  pub depth : ℕ
  pub meant : Tree
  pub spelled : Spells paths depth 0 used meant
  pub form : has_form false n rest ≡ true
  pub shorter : length rest < length ts

-- a whole expression from these tokens on, up to a closing parenthesis or the end
record Chain_front (paths : List (List (List ℕ))) (n : ℕ) (used ts : List Token) : Type 0 where
  pub more : List Token
  pub rest : List Token
  pub parts : ts ≡ more ++ rest
  pub depth : ℕ
  pub meant : Tree
  pub spelled : Spells paths depth 6 (used ++ more) meant
  pub ends : (rest ≡ [] → ⊥) → (behind : List Token) × (rest ≡ Closing ∷ behind) × (has_form false (n - 1) behind ≡ true) × (n ≢ 0)
  pub over : rest ≡ [] → n ≡ 0
  pub shorter : length rest ≤ length ts

operand_step : (paths : List (List (List ℕ))) (n d : ℕ) (ts inner rest : List Token) (x : Tree) (t : Token) → ts ≡ inner ++ rest → Spells paths d 0 (t ∷ inner) x → has_form false n rest ≡ true → length rest < suc (length ts) → Operand_front paths n (t ∷ ts)
operand_step paths n d ts inner rest x t e s f l = record { used = t ∷ inner; rest = rest; parts = ap (λ us. t ∷ us) e; depth = d; meant = x; spelled = s; form = f; shorter = l }

zero_form : (n : ℕ) → has_form false n [] ≡ true → n ≡ 0
zero_form n f = elim (eqb_tells n 0) [ inl t ↦ t.1 | inr t ↦ absurd (let no : false ≡ true = rw t.0 at f in cc) ]

closing_goes : (n : ℕ) (ts : List Token) → has_form false n (Closing ∷ ts) ≡ true → (has_form false (n - 1) ts ≡ true) × (n ≢ 0)
closing_goes n ts f = elim (eqb_tells n 0) [ inl t ↦ absurd (let no : false ≡ true = rw t.0 at f in cc) | inr t ↦ (let yes : has_form false (n - 1) ts ≡ true = rw t.0 at f in yes, t.1) ]

minus_goes : (sign : BinarySign) (b : Bool) → and_if (is_minus sign) b ≡ true → (sign ≡ binary.Minus) × (b ≡ true)
minus_goes binary.Minus b f = (refl, f)
minus_goes _ b f = absurd (cc)

-- the parenthesis that closes the expression
closed : (paths : List (List (List ℕ))) (n : ℕ) (ts used rest : List Token) → ts ≡ used ++ rest → length rest < length ts → Chain_front paths (n + 1) used rest → Operand_front paths n (Opening ∷ ts)
closed paths n ts used rest e l c = by_rest c.rest refl
  where
    by_rest : (r : List Token) → c.rest ≡ r → Operand_front paths n (Opening ∷ ts)
    by_rest [] i = absurd (let z : n + 1 ≡ 0 = c.over i in omega arith)
    by_rest (t ∷ r) i =
        let end = c.ends (λ no. let bad : (t ∷ r) ≡ [] = sym i ∙ no in cc) in
        let count : n + 1 - 1 ≡ n = omega arith in
        let long : length c.rest ≡ suc (length end.0) = ap length end.1 in
        let short = c.shorter in
        let grouped : (used ++ c.more) ++ (Closing ∷ end.0) ≡ ((used ++ c.more) ++ (Closing ∷ [])) ++ end.0 = simp append_assoc in
        let whole : ts ≡ ((used ++ c.more) ++ (Closing ∷ [])) ++ end.0 = e ∙ (ap (λ us. used ++ us) (c.parts ∙ ap (λ us. c.more ++ us) end.1) ∙ (sym (append_assoc used c.more (Closing ∷ end.0)) ∙ grouped)) in
        operand_step paths n (suc c.depth) ts ((used ++ c.more) ++ (Closing ∷ [])) end.0 c.meant Opening whole (parens c.depth (used ++ c.more) c.meant c.spelled) (rw count at end.2) (omega (arith, long, short))

joined : (paths : List (List (List ℕ))) (n : ℕ) (used ts inner rest : List Token) (o : Token) → ts ≡ inner ++ rest → length rest < length ts → Chain_front paths n (used ++ (o ∷ inner)) rest → Chain_front paths n used (o ∷ ts)
joined paths n used ts inner rest o e l c = record {
  more = o ∷ (inner ++ c.more);
  rest = c.rest;
  parts = ap (λ us. o ∷ us) (e ∙ (ap (λ us. inner ++ us) c.parts ∙ sym (append_assoc inner c.more c.rest)));
  depth = c.depth;
  meant = c.meant;
  spelled = subst (λ us. Spells paths c.depth 6 us c.meant) (simp append_assoc) c.spelled;
  ends = c.ends;
  over = c.over;
  shorter = let s = c.shorter in omega (arith, s);
}

mutual
  take_operand : (paths : List (List (List ℕ))) (bound n : ℕ) (ts : List Token) → length ts ≤ bound → has_form true n ts ≡ true → Operand_front paths n ts
  take_operand paths zero n [] h f = absurd (cc)
  take_operand paths zero n (t ∷ ts) h f = absurd (omega arith)
  take_operand paths (suc bound) n [] h f = absurd (cc)
  take_operand paths (suc bound) n (Constant v ∷ ts) h f = operand_step paths n 0 ts [] ts (Leaf v) (Constant v) refl (constant 0 v) f (omega arith)
  take_operand paths (suc bound) n (Path names ∷ ts) h f = operand_step paths n 0 ts [] ts (Place (place_in paths names)) (Path names) refl (operand 0 names) f (omega arith)
  take_operand paths (suc bound) n (Exclamation ∷ ts) h f =
      let i = take_operand paths bound n ts (omega arith) f in
      operand_step paths n (suc i.depth) ts i.used i.rest (One unary.Not i.meant) Exclamation i.parts (negation i.depth i.used i.meant i.spelled) i.form (let l = i.shorter in omega (arith, l))
  take_operand paths (suc bound) n (Binary sign ∷ ts) h f =
      let m = minus_goes sign (has_form true n ts) f in
      let i = take_operand paths bound n ts (omega arith) m.1 in
      subst (λ s. Operand_front paths n (Binary s ∷ ts)) (sym m.0)
      (operand_step paths n (suc i.depth) ts i.used i.rest (One unary.Minus i.meant) (Binary binary.Minus) i.parts (minus i.depth i.used i.meant i.spelled) i.form (let l = i.shorter in omega (arith, l)))
  take_operand paths (suc bound) n (Closing ∷ ts) h f = absurd (cc)
  take_operand paths (suc bound) n (Opening ∷ ts) h f =
      let i = take_operand paths bound (n + 1) ts (omega arith) f in
      let l = i.shorter in
      let c = take_chain paths bound (n + 1) i.depth i.used i.meant i.rest (lifted paths i.depth 6 i.used i.meant i.spelled) (omega (arith, l)) i.form in
      closed paths n ts i.used i.rest i.parts l c

  take_chain : (paths : List (List (List ℕ))) (bound n d : ℕ) (used : List Token) (x : Tree) (ts : List Token) → Spells paths d 6 used x → length ts ≤ bound → has_form false n ts ≡ true → Chain_front paths n used ts
  take_chain paths bound n d used x [] s h f = record {
    more = [];
    rest = [];
    parts = refl;
    depth = d;
    meant = x;
    spelled = subst (λ us. Spells paths d 6 us x) (sym (append-nil used)) s;
    ends = λ no. absurd (no refl);
    over = λ e. zero_form n f;
    shorter = omega arith;
  }
  take_chain paths bound n d used x (Closing ∷ ts) s h f = record {
    more = [];
    rest = Closing ∷ ts;
    parts = refl;
    depth = d;
    meant = x;
    spelled = subst (λ us. Spells paths d 6 us x) (sym (append-nil used)) s;
    ends = λ no. (ts, refl, (closing_goes n ts f).0, (closing_goes n ts f).1);
    over = λ e. absurd (cc);
    shorter = omega arith;
  }
  take_chain paths zero n d used x (Binary sign ∷ ts) s h f = absurd (omega arith)
  take_chain paths (suc bound) n d used x (Binary sign ∷ ts) s h f =
      let i = take_operand paths bound n ts (omega arith) f in
      let l = i.shorter in
      let o = strong sign in
      let room : ℕ = d + i.depth in
      let a = appended paths (d + i.depth) 6 used x (deeper paths d 6 used x s (d + i.depth) (omega arith)) o.level (Binary sign) sign i.used i.meant o.few o.is (deeper paths i.depth 0 i.used i.meant i.spelled (d + i.depth) (omega arith)) in
      let c = take_chain paths bound n (d + i.depth) (used ++ (Binary sign ∷ i.used)) a.meant i.rest a.spelled (omega (arith, l)) i.form in
      joined paths n used ts i.used i.rest (Binary sign) i.parts l c
  take_chain paths bound n d used x (Constant v ∷ ts) s h f = absurd (cc)
  take_chain paths bound n d used x (Path names ∷ ts) s h f = absurd (cc)
  take_chain paths bound n d used x (Opening ∷ ts) s h f = absurd (cc)
  take_chain paths bound n d used x (Exclamation ∷ ts) s h f = absurd (cc)

all_of : (paths : List (List (List ℕ))) (ts used rest : List Token) → ts ≡ used ++ rest → Chain_front paths 0 used rest → (d : ℕ) × (x : Tree) × Spells paths d 6 ts x
all_of paths ts used rest e c = by_rest c.rest refl
  where
    by_rest : (r : List Token) → c.rest ≡ r → (d : ℕ) × (x : Tree) × Spells paths d 6 ts x
    by_rest [] i =
        let whole : used ++ c.more ≡ ts = sym (e ∙ (ap (λ us. used ++ us) (c.parts ∙ (ap (λ us. c.more ++ us) i ∙ append-nil c.more)))) in
        (c.depth, c.meant, subst (λ us. Spells paths c.depth 6 us c.meant) whole c.spelled)
    by_rest (t ∷ r) i =
        let end = c.ends (λ no. let bad : (t ∷ r) ≡ [] = sym i ∙ no in cc) in
        absurd (end.3 refl)

pub spelled_of_form : (paths : List (List (List ℕ))) (ts : List Token) → has_form true 0 ts ≡ true → (d : ℕ) × (x : Tree) × Spells paths d 6 ts x
spelled_of_form paths ts f =
    let i = take_operand paths (length ts) 0 ts (omega arith) f in
    all_of paths ts i.used i.rest i.parts (take_chain paths (length i.rest) 0 i.depth i.used i.meant i.rest (lifted paths i.depth 6 i.used i.meant i.spelled) (omega arith) i.form)

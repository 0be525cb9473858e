-- The turns of the loops that read operands behind signs, quoted characters, names and tokens.
use Rattle.std.proofs.Common.{◌≡◌, ◌≢◌, ◌<◌, ◌+◌, ◌-◌, ℕ, true, false, List, [], ◌∷◌, ◌++◌, zero, suc, drop, refl, ap, sym, ◌∙◌, arith, Option, None, Some, append_assoc}
use Rattle.std.specs.Prelude.{encode_utf8}
use Rattle.std.proofs.lemmas.List.{append-nil}
use Rattle.fx_expr.specs.declared.tree.BinarySign.{BinarySign}
use Rattle.fx_expr.specs.declared.tokens.Token.{Token}
use Rattle.fx_expr.specs.declared.stops.Stop.{Stop}
use Rattle.fx_expr.specs.declared.stops.Stop.TheVariants as stop
use Rattle.fx_expr.specs.Tree.{Tree, Two}
use Rattle.fx_expr.specs.Spelling.{has_name}
use Rattle.fx_expr.specs.Scanning.{quoted_at, with_front, character_at, end_at, names_at, with_names, name_at, tokens_of, with_tokens, token_at, after_white}
use Rattle.fx_expr.specs.Reading.{Fails, more_of, operator_at}

-- what fails behind it fails
pub fails_on : {X Y : Type 0} (e : Stop) (a : Option X) (b : Option Y) → Fails e a → (a ≡ None → b ≡ None) → Fails e b
fails_on stop.Memory a b f g = tt
fails_on stop.Refused a b f g = g f

pub more_some : (f : List Token → Option (Tree × List Token)) (m k j : ℕ) (x y : Tree) (ts next rest : List Token)
    (sign : BinarySign) → k ≡ suc j
    → operator_at m ts ≡ Some (sign, next) → f next ≡ Some (y, rest) → more_of f m k x ts
    ≡ more_of f m j (Two sign x y) rest
unfolding more_of
more_some f m k j x y ts next rest sign i o e = rw (i, o, e) refl

pub more_none : (f : List Token → Option (Tree × List Token)) (m k j : ℕ) (x : Tree) (ts next : List Token)
    (sign : BinarySign) → k ≡ suc j
    → operator_at m ts ≡ Some (sign, next) → f next ≡ None → more_of f m k x ts ≡ None
unfolding more_of
more_none f m k j x ts next sign i o e = rw (i, o, e) refl

pub more_stops : (f : List Token → Option (Tree × List Token)) (m k : ℕ) (x : Tree) (ts : List Token)
    → operator_at m ts ≡ None → more_of f m k x ts ≡ Some (x, ts)
unfolding more_of
more_stops f m zero x ts o = refl
more_stops f m (suc k) x ts o = rw o refl

pub more_ends : (f : List Token → Option (Tree × List Token)) (m k : ℕ) (x : Tree) (ts : List Token) → k ≡ 0
    → more_of f m k x ts ≡ Some (x, ts)
unfolding more_of
more_ends f m k x ts i = rw i refl

-- quoted texts
front_twice : (a b : List ℕ) (o : Option (List ℕ × List ℕ)) → with_front (a ++ b) o ≡ with_front a (with_front b o)
front_twice a b None = refl
front_twice a b (Some p) = ap (λ t. Some (t, p.1)) append_assoc'
  where
    append_assoc' : (a ++ b) ++ p.0 ≡ a ++ (b ++ p.0)
    append_assoc' = simp append_assoc

pub quoted_more : (quote k j : ℕ) (text rest so_far : List ℕ) (c : ℕ) (known : Option (List ℕ × List ℕ)) → k ≡ suc j
    → character_at quote text ≡ Some (c, rest)
    → with_front so_far (quoted_at k quote text) ≡ known → with_front (so_far ++ encode_utf8 c)
    (quoted_at j quote rest) ≡ known
unfolding quoted_at
quoted_more quote k j text rest so_far c known i e inv = front_twice so_far (encode_utf8 c) (quoted_at j quote rest)
    ∙ (rw (i, e) at inv)

pub quoted_ends : (quote k : ℕ) (text : List ℕ) → (character_at quote text ≡ None) → quoted_at k quote text
    ≡ end_at quote text
unfolding quoted_at
quoted_ends quote zero text e = refl
quoted_ends quote (suc k) text e = rw e refl

pub quoted_over : (quote k : ℕ) (text : List ℕ) → k ≡ 0 → quoted_at k quote text ≡ end_at quote text
unfolding quoted_at
quoted_over quote k text e = rw e refl

-- names
names_twice : (a b : List (List ℕ)) (o : Option (List (List ℕ) × List ℕ)) → with_names (a ++ b) o
    ≡ with_names a (with_names b o)
names_twice a b None = refl
names_twice a b (Some p) = ap (λ t. Some (t, p.1)) grouped
  where
    grouped : (a ++ b) ++ p.0 ≡ a ++ (b ++ p.0)
    grouped = simp append_assoc

pub names_more : (k j : ℕ) (text rest name : List ℕ) (so_far : List (List ℕ)) (known : Option (List (List ℕ) × List ℕ))
    → k ≡ suc j → has_name text ≡ true → name_at (drop 1 text) ≡ Some (name, rest)
    → with_names so_far (names_at k text) ≡ known → with_names (so_far ++ (name ∷ [])) (names_at j rest) ≡ known
unfolding names_at
names_more k j text rest name so_far known i h e inv = names_twice so_far (name ∷ []) (names_at j rest)
    ∙ (rw (i, h, e) at inv)

pub names_fail : (k j : ℕ) (text : List ℕ) (so_far : List (List ℕ)) (known : Option (List (List ℕ) × List ℕ)) → k
    ≡ suc j → has_name text ≡ true → name_at (drop 1 text) ≡ None
    → with_names so_far (names_at k text) ≡ known → known ≡ None
unfolding names_at
names_fail k j text so_far known i h e inv = sym (rw (i, h, e) at inv)

pub names_stop : (k : ℕ) (text : List ℕ) → has_name text ≡ false → names_at k text ≡ Some ([], text)
unfolding names_at
names_stop zero text h = refl
names_stop (suc k) text h = rw h refl

pub names_end : (k : ℕ) (text : List ℕ) → k ≡ 0 → names_at k text ≡ Some ([], text)
unfolding names_at
names_end k text e = rw e refl

-- tokens
tokens_twice : (a b : List Token) (o : Option (List Token)) → with_tokens (a ++ b) o ≡ with_tokens a (with_tokens b o)
tokens_twice a b None = refl
tokens_twice a b (Some ts) = ap (λ (t : List Token). Some t) grouped
  where
    grouped : (a ++ b) ++ ts ≡ a ++ (b ++ ts)
    grouped = simp append_assoc

pub tokens_more : (k j : ℕ) (text rest : List ℕ) (t : Token) (so_far : List Token) (known : Option (List Token)) → k
    ≡ suc j → text ≢ [] → token_at text ≡ Some (t, rest)
    → with_tokens so_far (tokens_of k text) ≡ known → with_tokens (so_far ++ (t ∷ [])) (tokens_of j (after_white rest))
    ≡ known
unfolding tokens_of
tokens_more k j [] rest t so_far known i n e inv = absurd (n refl)
tokens_more k j (c ∷ cs) rest t so_far known i n e inv = tokens_twice so_far (t ∷ []) (tokens_of j (after_white rest))
    ∙ (rw (i, e) at inv)

pub tokens_fail : (k j : ℕ) (text : List ℕ) (so_far : List Token) (known : Option (List Token)) → k ≡ suc j → text ≢ []
    → token_at text ≡ None
    → with_tokens so_far (tokens_of k text) ≡ known → known ≡ None
unfolding tokens_of
tokens_fail k j [] so_far known i n e inv = absurd (n refl)
tokens_fail k j (c ∷ cs) so_far known i n e inv = sym (rw (i, e) at inv)

pub tokens_end : (k : ℕ) (text : List ℕ) (so_far : List Token) (known : Option (List Token)) → text ≡ []
    → with_tokens so_far (tokens_of k text) ≡ known → known ≡ Some so_far
unfolding tokens_of
tokens_end zero text so_far known e inv = sym (rw e at inv) ∙ ap (λ (t : List Token). Some t) (simp append-nil)
tokens_end (suc k) text so_far known e inv = sym (rw e at inv) ∙ ap (λ (t : List Token). Some t) (simp append-nil)

pub tokens_left : (k : ℕ) (text : List ℕ) (so_far : List Token) (known : Option (List Token)) → k ≡ 0 → text ≢ []
    → with_tokens so_far (tokens_of k text) ≡ known → known ≡ None
unfolding tokens_of
tokens_left k [] so_far known i n inv = absurd (n refl)
tokens_left k (c ∷ cs) so_far known i n inv = sym (rw i at inv)

-- how many turns are left
pub turns_left : (n i : ℕ) → i < n → n - i ≡ suc (n - (i + 1))
turns_left n i h = omega arith

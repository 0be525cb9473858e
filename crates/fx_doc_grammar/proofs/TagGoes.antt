-- The machine goes over tags and their attributes as they are written.
-- Above the goings in general, beside those over comments and instructions.
use Rattle.std.proofs.Common.{◌≡◌, ℕ, ◌+◌, Bool, true, false, not, List, [], ◌∷◌, ◌++◌, Option, Some, None, length, refl, sym, ◌∙◌, ap, subst, append_assoc, append-nil, arith, suc}
use lib.Dec.{eqb}
use lib.Utf8.{encode}
use Rattle.fx_doc_grammar.specs.Characters.{class_of, in_name, IsWhite, Each}
use Rattle.fx_base.specs.Positions.{after, after_all}
use Rattle.fx_doc_grammar.specs.Grammar.{IsName, IsFilled, stands_for, Sign, Plain, Stands, sign_text, sign_value, signs_text, is_plain, is_quote, Value_ok, Value_sign_ok, Written, attribute_text, attributes_text, Attribute_ok, Attributes_ok, quote_code, Tag, tag_text, Tag_ok, is_among, end_text, Attr, Head, Level, one_child, closed, value_byte, value_of, attr_at, attributes_of, head_of}
use Rattle.fx_doc_grammar.specs.Machine.{entity_step, Stack, Opened, Held, Inside, Opening, Naming, Spaced, Tight, Keyed, KeySpaced, Signed, Quoted, ValueReferring, Slashed, Ending, Ended, State, at, some_if, may_begin, open_element, keys_of, is_fresh, with_attribute, in_opening, in_naming, in_spaced, in_tight, in_keyed, in_key_spaced, in_signed, in_value, in_quoted, in_value_referring, in_ended, step}
use Rattle.fx_doc_grammar.proofs.Goes.{Goes, stays, seq, one_then, one, ends_at, over, named_each, white_each, turned, entity_over, reference_rest, reference_parts, reference_run}
use Rattle.fx_doc_grammar.proofs.Marks.{as_state}
use Rattle.fx_doc_grammar.specs.declared.Class.{Class}
use Rattle.fx_doc_grammar.specs.declared.Class.TheVariants.{Less, Dash, Ampersand, Letter, Digit}
use Rattle.fx_doc_grammar.specs.declared.Quote.{Quote}
use Rattle.fx_doc_grammar.specs.declared.Quote.TheVariants.{Single, Double}
use Rattle.fx_doc_grammar.specs.declared.Entity.TheVariants.{Begun}
use Rattle.fx_doc_grammar.specs.declared.Turn.{Turn}
use Rattle.fx_doc_grammar.specs.declared.Turn.TheVariants.{Further, Whole}
use Rattle.fx_base.specs.declared.positions.Position.{Position}

-- names -------------------------------------------------------------------------------------------

naming_on : (h : Held) (q : Position) (n : List ℕ) (c : ℕ) (k : Class) → in_name k ≡ true → in_naming q n h c k ≡ at h (Naming q (n ++ (c ∷ [])))
naming_on h q n c Letter e = refl
naming_on h q n c Digit e = refl
naming_on h q n c Dash e = refl
naming_on h q n c k e = absurd (let f : false ≡ true = e in cc)

pub keyed_on : (h : Held) (head : Head) (q : Position) (n : List ℕ) (c : ℕ) (k : Class) → in_name k ≡ true → in_keyed head q n h c k ≡ at h (Keyed head q (n ++ (c ∷ [])))
keyed_on h head q n c Letter e = refl
keyed_on h head q n c Digit e = refl
keyed_on h head q n c Dash e = refl
keyed_on h head q n c k e = absurd (let f : false ≡ true = e in cc)

letter_begins : (h : Held) (q : Position) (c : ℕ) (b : Bool) → b ≡ true → some_if b (at h (Naming q (c ∷ []))) ≡ at h (Naming q (c ∷ []))
letter_begins h q c true e = refl
letter_begins h q c false e = absurd (let f : false ≡ true = e in cc)

pub less_goes : (h : Held) (p : Position) → Goes p (as_state h Inside) (60 ∷ []) (as_state h (Opening p))
unfolding class_of
less_goes h p = record { is = refl }

pub name_goes : (h : Held) (n : List ℕ) → may_begin h ≡ true → IsName n → (p : Position) → Goes p (as_state h Inside) (60 ∷ n) (as_state h (Naming p n))
name_goes h [] b o p = absurd o
name_goes h (c ∷ n) b o p = seq (less_goes h p)
    (one_then (ap (λ k. in_opening p h c k) o.0 ∙ letter_begins h p c (may_begin h) b)
    (named_each (λ y. as_state h (Naming p y)) (λ q y d e. naming_on h p y d (class_of d) e) (c ∷ []) n (after (after p 60) c) o.1))

-- the states at which a tag may go on or end ------------------------------------------------------

pub record Ready (h : Held) (head : Head) (y : State) : Type 0 where
  pub white : (p : Position) (c : ℕ) → IsWhite c → step p y c ≡ Some (as_state h (Spaced head))
  pub slash : (p : Position) → step p y 47 ≡ Some (as_state h (Slashed head))
  pub greater : (p : Position) → step p y 62 ≡ Some (as_state (open_element h head) Inside)

pub ready_naming : (h : Held) (q : Position) (n : List ℕ) → Ready h (record { name = n; attributes = []; position = q }) (as_state h (Naming q n))
unfolding class_of
ready_naming h q n = record { white = λ p c e. ap (λ k. in_naming q n h c k) e; slash = λ p. refl; greater = λ p. refl }

pub ready_spaced : (h : Held) (head : Head) → Ready h head (as_state h (Spaced head))
unfolding class_of
ready_spaced h head = record { white = λ p c e. ap (λ k. in_spaced p head h c k) e; slash = λ p. refl; greater = λ p. refl }

pub ready_tight : (h : Held) (head : Head) → Ready h head (as_state h (Tight head))
unfolding class_of
ready_tight h head = record { white = λ p c e. ap (λ k. in_tight head h k) e; slash = λ p. refl; greater = λ p. refl }

pub spaced_each : (h : Held) (head : Head) (w : List ℕ) (p : Position) → Each IsWhite w → Goes p (as_state h (Spaced head)) w (as_state h (Spaced head))
spaced_each h head w p o = white_each (as_state h (Spaced head)) (λ q c e. ap (λ k. in_spaced q head h c k) e) w p o

pub white_goes : (h : Held) (head : Head) (y : State) → Ready h head y → (w : List ℕ) → IsFilled w → Each IsWhite w → (p : Position) → Goes p y w (as_state h (Spaced head))
white_goes h head y r [] f o p = absurd f
white_goes h head y r (c ∷ w) f o p = one_then (r.white p c o.0) (spaced_each h head w (after p c) o.1)

-- values ------------------------------------------------------------------------------------------

plain_value : (h : Held) (p : Position) (head : Head) (q : Position) (key : List ℕ) (u : Quote) (v : List ℕ) (n c : ℕ) (k : Class) → is_plain k ≡ true → is_quote u k ≡ false
    → in_quoted p head q key u v n h c k ≡ at h (Quoted head q key u (v ++ value_byte k c) (n + 1))
plain_value h p head q key u v n c Less e f = absurd (let g : false ≡ true = e in cc)
plain_value h p head q key u v n c Ampersand e f = absurd (let g : false ≡ true = e in cc)
plain_value h p head q key u v n c k e f = ap (λ b. in_value b head q key u v n h c k) f

pub value_turned : (h : Held) (p : Position) (head : Head) (q : Position) (key : List ℕ) (u : Quote) (v : List ℕ) (n : ℕ) (r : Position) (o : Option Turn)
    → in_value_referring head q key u v n r h o ≡ turned (λ e. as_state h (ValueReferring head q key u v n r e)) (λ x. as_state h (Quoted head q key u (v ++ encode x) (n + 1))) o
value_turned h p head q key u v n r (Some (Further e)) = refl
value_turned h p head q key u v n r (Some (Whole x)) = refl
value_turned h p head q key u v n r None = refl

pub value_ampersand : (h : Held) (p : Position) (head : Head) (q : Position) (key : List ℕ) (u : Quote) (v : List ℕ) (n : ℕ) → step p (as_state h (Quoted head q key u v n)) 38 ≡ Some (as_state h (ValueReferring head q key u v n p Begun))
unfolding class_of
value_ampersand h p head q key u v n = refl

pub value_sign_goes : (h : Held) (head : Head) (q : Position) (key : List ℕ) (u : Quote) (v : List ℕ) (n : ℕ) (s : Sign) → Value_sign_ok u s → (p : Position)
    → Goes p (as_state h (Quoted head q key u v n)) (sign_text s) (as_state h (Quoted head q key u (v ++ sign_value s) (n + 1)))
value_sign_goes h head q key u v n (Plain c) o p = one (plain_value h p head q key u v n c (class_of c) o.0 o.1)
value_sign_goes h head q key u v n (Stands r) o p = over (reference_parts r)
    (one_then (value_ampersand h p head q key u v n)
    (entity_over (λ e. as_state h (ValueReferring head q key u v n p e)) (λ x. as_state h (Quoted head q key u (v ++ encode x) (n + 1)))
    (λ t e c. value_turned h t head q key u v n p (entity_step e c)) (reference_rest r) Begun (after p 38) (stands_for r) (reference_run r o)))

count_on : (n : ℕ) (m : ℕ) → (n + 1) + m ≡ n + suc m
count_on n m = omega arith

pub value_goes : (h : Held) (head : Head) (q : Position) (key : List ℕ) (u : Quote) (ss : List Sign) (v : List ℕ) (n : ℕ) → Value_ok u ss → (p : Position)
    → Goes p (as_state h (Quoted head q key u v n)) (signs_text ss) (as_state h (Quoted head q key u (v ++ value_of ss) (n + length ss)))
value_goes h head q key u [] v n o p = ends_at (ap (λ y. as_state h (Quoted head q key u y n)) (sym (append-nil v)) ∙ ap (λ y. as_state h (Quoted head q key u (v ++ []) y)) (nothing_more n)) stays
  where
    nothing_more : (n : ℕ) → n ≡ n + 0
    nothing_more n = omega arith
value_goes h head q key u (s ∷ ss) v n o p = seq (value_sign_goes h head q key u v n s o.0 p)
    (ends_at (ap (λ y. as_state h (Quoted head q key u y ((n + 1) + length ss))) (append_assoc v (sign_value s) (value_of ss)) ∙ ap (λ y. as_state h (Quoted head q key u (v ++ (sign_value s ++ value_of ss)) y)) (count_on n (length ss)))
    (value_goes h head q key u ss (v ++ sign_value s) (n + 1) o.1 (after_all p (sign_text s))))

-- from an attribute's name to its value -----------------------------------------------------------

pub if_fresh : (b : Bool) (o : Option State) → b ≡ true → some_if b o ≡ o
if_fresh true o e = refl
if_fresh false o e = absurd (let f : false ≡ true = e in cc)

equals_keyed : (h : Held) (head : Head) (q : Position) (key : List ℕ) → is_fresh key head ≡ true → (p : Position) → step p (as_state h (Keyed head q key)) 61 ≡ Some (as_state h (Signed head q key))
unfolding class_of
equals_keyed h head q key f p = if_fresh (is_fresh key head) (at h (Signed head q key)) f

equals_spaced : (h : Held) (head : Head) (q : Position) (key : List ℕ) (p : Position) → step p (as_state h (KeySpaced head q key)) 61 ≡ Some (as_state h (Signed head q key))
unfolding class_of
equals_spaced h head q key p = refl

pub key_goes : (h : Held) (head : Head) (key : List ℕ) → IsName key → (p : Position) → Goes p (as_state h (Spaced head)) key (as_state h (Keyed head p key))
key_goes h head [] o p = absurd o
key_goes h head (c ∷ key) o p = one_then (ap (λ k. in_spaced p head h c k) o.0)
    (named_each (λ y. as_state h (Keyed head p y)) (λ q y d e. keyed_on h head p y d (class_of d) e) (c ∷ []) key (after p c) o.1)

-- white behind a name; the name is fresh
key_white : (h : Held) (head : Head) (q : Position) (key : List ℕ) → is_fresh key head ≡ true → (w : List ℕ) → Each IsWhite w → (p : Position) (rest : List ℕ) (s : State)
    → ((t : Position) → Goes t (as_state h (Signed head q key)) rest s) → Goes p (as_state h (Keyed head q key)) (w ++ (61 ∷ rest)) s
key_white h head q key f [] o p rest s g = one_then (equals_keyed h head q key f p) (g (after p 61))
key_white h head q key f (c ∷ w) o p rest s g =
    one_then (ap (λ k. in_keyed head q key h c k) o.0 ∙ if_fresh (is_fresh key head) (at h (KeySpaced head q key)) f)
    (seq (white_each (as_state h (KeySpaced head q key)) (λ t d e. ap (λ k. in_key_spaced head q key h k) e) w (after p c) o.1)
    (one_then (equals_spaced h head q key (after_all (after p c) w)) (g (after (after_all (after p c) w) 61))))

signed_each : (h : Held) (head : Head) (q : Position) (key v : List ℕ) → Each IsWhite v → (p : Position) → Goes p (as_state h (Signed head q key)) v (as_state h (Signed head q key))
signed_each h head q key v o p = white_each (as_state h (Signed head q key)) (λ t d e. ap (λ k. in_signed head q key h k) e) v p o

quote_begins : (h : Held) (head : Head) (q : Position) (key : List ℕ) (u : Quote) (p : Position) → step p (as_state h (Signed head q key)) (quote_code u) ≡ Some (as_state h (Quoted head q key u [] 0))
unfolding class_of
quote_begins h head q key Single p = refl
quote_begins h head q key Double p = refl

pub quote_ends : (h : Held) (head : Head) (q : Position) (key : List ℕ) (u : Quote) (v : List ℕ) (n : ℕ) (p : Position) → step p (as_state h (Quoted head q key u v n)) (quote_code u) ≡ Some (as_state h (Tight (with_attribute head q key v)))
unfolding class_of
quote_ends h head q key Single v n p = refl
quote_ends h head q key Double v n p = refl

pub value_open : (h : Held) (head : Head) (key w v : List ℕ) (u : Quote) (ss : List Sign) → IsName key → is_fresh key head ≡ true → Each IsWhite w → Each IsWhite v → Value_ok u ss → (p : Position)
    → Goes p (as_state h (Spaced head)) (key ++ (w ++ (61 ∷ (v ++ (quote_code u ∷ signs_text ss))))) (as_state h (Quoted head p key u (value_of ss) (length ss)))
value_open h head key w v u ss o f ow ov os p = seq (key_goes h head key o p)
    (key_white h head p key f w ow (after_all p key) (v ++ (quote_code u ∷ signs_text ss)) (as_state h (Quoted head p key u (value_of ss) (length ss)))
    (λ t. seq (signed_each h head p key v ov t)
    (one_then (quote_begins h head p key u (after_all t v))
    (ends_at (ap (λ y. as_state h (Quoted head p key u (value_of ss) y)) (all_of (length ss))) (value_goes h head p key u ss [] 0 os (after (after_all t v) (quote_code u)))))))
  where
    all_of : (n : ℕ) → 0 + n ≡ n
    all_of n = omega arith

attribute_tail : (k w v m : List ℕ) (q : ℕ) → (k ++ (w ++ (61 ∷ (v ++ (q ∷ m))))) ++ (q ∷ []) ≡ k ++ (w ++ (61 ∷ (v ++ (q ∷ (m ++ (q ∷ []))))))
attribute_tail k w v m q = append_assoc k (w ++ (61 ∷ (v ++ (q ∷ m)))) (q ∷ []) ∙ ap (λ y. k ++ y) (append_assoc w (61 ∷ (v ++ (q ∷ m))) (q ∷ []) ∙ ap (λ y. w ++ (61 ∷ y)) (append_assoc v (q ∷ m) (q ∷ [])))

pub attribute_goes : (h : Held) (head : Head) (y : State) → Ready h head y → (a : Written) → Attribute_ok a → is_fresh a.key head ≡ true → (p : Position)
    → Goes p y (attribute_text a) (as_state h (Tight (with_attribute head (after_all p a.white) a.key (value_of a.value))))
attribute_goes h head y r a o f p =
    seq (white_goes h head y r a.white o.0 o.1 p)
    (over (attribute_tail a.key a.before a.behind (signs_text a.value) (quote_code a.quote))
    (seq (value_open h head a.key a.before a.behind a.quote a.value o.2 f o.3 o.4 o.5 (after_all p a.white))
    (one (quote_ends h head (after_all p a.white) a.key a.quote (value_of a.value) (length a.value) (after_all (after_all p a.white) (a.key ++ (a.before ++ (61 ∷ (a.behind ++ (quote_code a.quote ∷ signs_text a.value))))))))))

-- attributes, and whole tags ----------------------------------------------------------------------

abbrev more_attributes : Head → List Attr → Head
more_attributes head ats = record { name = head.name; attributes = head.attributes ++ ats; position = head.position }

keys_of-append : (a b : List Attr) → keys_of (a ++ b) ≡ keys_of a ++ keys_of b
keys_of-append [] b = refl
keys_of-append (x ∷ a) b = ap (λ (z : List (List ℕ)). x.name ∷ z) (keys_of-append a b)

pub fresh_by : (key : List ℕ) (head : Head) (seen : List (List ℕ)) → keys_of head.attributes ≡ seen → is_among key seen ≡ false → is_fresh key head ≡ true
fresh_by key head seen e f = ap (λ y. not (is_among key y)) e ∙ ap not f

abbrev TagAt : Held → Position → State → Head → List ℕ → Type 0
TagAt h p y head text = (y' : State) × Ready h head y' × Goes p y text y'

attributes_goes : (h : Held) (ats : List Written) (head : Head) (y : State) (seen : List (List ℕ)) → Ready h head y → keys_of head.attributes ≡ seen → Attributes_ok seen ats → (p : Position)
    → TagAt h p y (more_attributes head (attributes_of p ats)) (attributes_text ats)
attributes_goes h [] head y seen r e o p = (y, subst (λ (z : Head). Ready h z y) (ap (λ (z : List Attr). record { name = head.name; attributes = z; position = head.position }) (sym (append-nil head.attributes))) r, stays)
attributes_goes h (a ∷ ats) head y seen r e o p =
    let first = attribute_goes h head y r a o.0 (fresh_by a.key head seen e o.1) p in
    let head' : Head = with_attribute head (after_all p a.white) a.key (value_of a.value) in
    let rest = attributes_goes h ats head' (as_state h (Tight head')) (seen ++ (a.key ∷ [])) (ready_tight h head')
    (keys_of-append head.attributes (attr_at p a ∷ []) ∙ ap (λ (z : List (List ℕ)). z ++ (a.key ∷ [])) e) o.2 (after_all p (attribute_text a)) in (
      rest.0,
      subst (λ (z : List Attr). Ready h (record { name = head.name; attributes = z; position = head.position }) rest.0) (append_assoc head.attributes (attr_at p a ∷ []) (attributes_of (after_all p (attribute_text a)) ats)) rest.1,
      seq first rest.2,
    )

-- over a whole tag but its end; white at its end leads to Spaced
pub record TagGoes (h : Held) (p : Position) (t : Tag) : Type 0 where
  pub state : State
  pub ready : Ready h (head_of p t) state
  pub goes : Goes p (as_state h Inside) (tag_text t) state
  pub spaced : IsFilled t.white → state ≡ as_state h (Spaced (head_of p t))

tag_white : (h : Held) (p : Position) (n : List ℕ) (ats : List Written) (w : List ℕ) (y : State) → Ready h (head_of p (record { name = n; attributes = ats; white = w })) y → Each IsWhite w
    → Goes p (as_state h Inside) ((60 ∷ n) ++ attributes_text ats) y → TagGoes h p (record { name = n; attributes = ats; white = w })
tag_white h p n ats [] y r o g = record { state = y; ready = r; goes = over (ap (λ z. (60 ∷ n) ++ z) (sym (append-nil (attributes_text ats)))) g; spaced = λ f. absurd f }
tag_white h p n ats (c ∷ w) y r o g = record {
  state = as_state h (Spaced (head_of p (record { name = n; attributes = ats; white = c ∷ w })));
  ready = ready_spaced h (head_of p (record { name = n; attributes = ats; white = c ∷ w }));
  goes = over (append_assoc (60 ∷ n) (attributes_text ats) (c ∷ w)) (seq g (white_goes h (head_of p (record { name = n; attributes = ats; white = c ∷ w })) y r (c ∷ w) tt o (after_all p ((60 ∷ n) ++ attributes_text ats))));
  spaced = λ f. refl;
}

pub tag_goes : (h : Held) (t : Tag) → may_begin h ≡ true → Tag_ok t → (p : Position) → TagGoes h p t
tag_goes h t b o p =
    let head : Head = record { name = t.name; attributes = []; position = p } in
    let r = attributes_goes h t.attributes head (as_state h (Naming p t.name)) [] (ready_naming h p t.name) refl o.1 (after_all p (60 ∷ t.name)) in
    tag_white h p t.name t.attributes t.white r.0 r.1 o.2 (seq (name_goes h t.name b o.0 p) r.2)

-- the ends of elements ----------------------------------------------------------------------------

pub eqb_refl : (c : ℕ) → eqb c c ≡ true
eqb_refl c = grind arith

name_left : (h : Held) (n : List ℕ) (p : Position) (rest : List ℕ) (s : State) → ((q : Position) → Goes q (as_state h (Ending [])) rest s) → Goes p (as_state h (Ending n)) (n ++ rest) s
name_left h [] p rest s g = g p
name_left h (c ∷ n) p rest s g = one_then (if_fresh (eqb c c) (at h (Ending n)) (eqb_refl c)) (name_left h n (after p c) rest s g)

slash_goes : (h : Held) (l : Level) (s : Stack) (d : Head) (imports : List (List ℕ)) (level : Level) (p : Position)
    → Goes p (as_state (record { imports = imports; stack = Opened s l d; level = level }) Inside) (60 ∷ (47 ∷ [])) (as_state (record { imports = imports; stack = Opened s l d; level = level }) (Ending d.name))
unfolding class_of
slash_goes h l s d imports level p = record { is = refl }

end_last : (imports : List (List ℕ)) (s : Stack) (l : Level) (d : Head) (level : Level) (w : List ℕ) → Each IsWhite w → (p : Position)
    → Goes p (as_state (record { imports = imports; stack = Opened s l d; level = level }) (Ending [])) (w ++ (62 ∷ [])) (as_state (record { imports = imports; stack = s; level = one_child l d (closed level) }) Inside)
unfolding class_of
end_last imports s l d level [] o p = record { is = refl }
end_last imports s l d level (c ∷ w) o p =
    let h : Held = record { imports = imports; stack = Opened s l d; level = level } in
    one_then (ap (λ k. in_ended h k) o.0)
    (seq (white_each (as_state h Ended) (λ t e f. ap (λ k. in_ended h k) f) w (after p c) o.1) (one refl))

pub end_goes : (imports : List (List ℕ)) (s : Stack) (l : Level) (d : Head) (level : Level) (w : List ℕ) → Each IsWhite w → (p : Position)
    → Goes p (as_state (record { imports = imports; stack = Opened s l d; level = level }) Inside) (end_text d.name w) (as_state (record { imports = imports; stack = s; level = one_child l d (closed level) }) Inside)
end_goes imports s l d level w o p =
    let h : Held = record { imports = imports; stack = Opened s l d; level = level } in
    seq (slash_goes h l s d imports level p)
    (name_left h d.name (after_all p (60 ∷ (47 ∷ []))) (w ++ (62 ∷ [])) (as_state (record { imports = imports; stack = s; level = one_child l d (closed level) }) Inside)
    (λ q. end_last imports s l d level w o q))

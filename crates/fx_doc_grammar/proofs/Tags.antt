-- What the machine has taken within tags is a beginning that is written so.
-- Beside the steps of comments and instructions.
use Rattle.std.proofs.Common.{◌≡◌, ℕ, ◌+◌, Bool, true, false, List, [], ◌∷◌, ◌++◌, Some, length, refl, sym, ◌∙◌, ap, subst, append_assoc, append-nil, length-append, arith}
use lib.Dec.{eqb}
use Rattle.fx_doc_grammar.specs.Characters.{class_of, in_name, IsWhite}
use Rattle.fx_base.specs.Positions.{after_all}
use Rattle.fx_doc_grammar.specs.Grammar.{Sign, Plain, sign_text, sign_value, signs_text, is_plain, is_quote, Value_sign_ok, Written, attributes_text, quote_code, Tag, tag_text, Tag_ok, is_among, Items, Leaf, Attr, Head, value_byte, value_of, attributes_of, head_of}
use Rattle.fx_doc_grammar.specs.Machine.{Held, Inside, Naming, Tight, Keyed, KeySpaced, Signed, Quoted, Ending, State, at, some_if, keys_of, is_fresh, with_attribute, in_naming, in_spaced, in_tight, in_keyed, in_key_spaced, in_signed, in_value, in_quoted, in_slashed, in_ended, in_ending}
use Rattle.fx_doc_grammar.specs.Beginnings.{Path, Top, Within, PNaming, PSpaced, PTight, PKeyed, PKeySpaced, PSigned, PQuoted, PValueReferring, PSlashed, PEnding, PEnded, value_part, IsOpenName, keys, Part_ok}
use Rattle.fx_doc_grammar.proofs.Runs.{after-append, signs_text-append, value_of-append, fits_at}
use Rattle.fx_doc_grammar.proofs.States.{here, held_of, state_of, held_leaf, held_open, leaf_ok, not_false, attributes_text-append, attributes_of-more, keys_of_are, attributes_more, value_more, each_more, name_more, filled_more}
use Rattle.fx_doc_grammar.proofs.Steps.{Leads, Placed, none_some, stay, done, opens, closes, if_some, named_at}
use Rattle.fx_doc_grammar.specs.declared.Class.{Class}
use Rattle.fx_doc_grammar.specs.declared.Class.TheVariants.{White, Less, Greater, Slash, Equals, Quotation, Apostrophe, Ampersand, Letter}
use Rattle.fx_doc_grammar.specs.declared.Quote.{Quote}
use Rattle.fx_doc_grammar.specs.declared.Quote.TheVariants.{Single, Double}
use Rattle.fx_doc_grammar.specs.declared.Entity.TheVariants.{Begun}
use Rattle.fx_base.specs.declared.positions.Position.{Position}

-- the tag of a name alone
abbrev bare : List ℕ → List ℕ → Tag
bare n w = record { name = n; attributes = []; white = w }

naming_more : (p : Path) (i : Items) (n : List ℕ) (c : ℕ) (s : State) → Placed p i → Part_ok p i (PNaming n) → (k : Class) → class_of c ≡ k → some_if (in_name k) (at (held_of p i) (Naming (here p i) (n ++ (c ∷ [])))) ≡ Some s → Leads p i (PNaming n) c s
naming_more p i n c s o z k e h =
    let r = if_some (in_name k) (at (held_of p i) (Naming (here p i) (n ++ (c ∷ [])))) s h in
    stay p i (PNaming n) (PNaming (n ++ (c ∷ []))) c s o (z.0, name_more n c z.1 (named_at c k e r.0)) refl r.1

bare_text : (n : List ℕ) (c d : ℕ) → c ≡ d → (60 ∷ n) ++ (c ∷ []) ≡ tag_text (bare n []) ++ (d ∷ [])
bare_text n c d e = ap (λ y. 60 ∷ (n ++ (y ∷ []))) e ∙ ap (λ y. y ++ (d ∷ [])) (sym (append-nil (60 ∷ n)))

pub adv_naming : (p : Path) (i : Items) (n : List ℕ) (c : ℕ) (s : State) → Placed p i → Part_ok p i (PNaming n) → (k : Class) → class_of c ≡ k → in_naming (here p i) n (held_of p i) c k ≡ Some s → Leads p i (PNaming n) c s
adv_naming p i n c s o z White e h = stay p i (PNaming n) (PSpaced (bare n (c ∷ []))) c s o (z.0, (z.1, tt, (e, tt)), tt) refl h
adv_naming p i n c s o z Slash e h = stay p i (PNaming n) (PSlashed (bare n [])) c s o (z.0, (z.1, tt, tt)) (bare_text n c 47 (fits_at c Slash e)) h
adv_naming p i n c s o z Greater e h = opens p i (bare n []) (PNaming n) c s o z.0 (z.1, tt, tt) (bare_text n c 62 (fits_at c Greater e))
    (ap (λ (y : Held). at y Inside) (held_open p i (bare n [])) ∙ h)
adv_naming p i n c s o z k e h = naming_more p i n c s o z k e h

-- white behind a tag's last piece
abbrev wider : Tag → ℕ → Tag
wider t c = record { name = t.name; attributes = t.attributes; white = t.white ++ (c ∷ []) }

wider_text : (t : Tag) (c : ℕ) → tag_text t ++ (c ∷ []) ≡ tag_text (wider t c)
wider_text t c = simp append_assoc

wider_ok : (t : Tag) (c : ℕ) → Tag_ok t → IsWhite c → Tag_ok (wider t c)
wider_ok t c o e = (o.0, o.1, each_more IsWhite t.white c o.2 e)

pub adv_spaced : (p : Path) (i : Items) (t : Tag) (c : ℕ) (s : State) → Placed p i → Part_ok p i (PSpaced t) → (k : Class) → class_of c ≡ k → in_spaced (after_all (here p i) (tag_text t)) (head_of (here p i) t) (held_of p i) c k ≡ Some s → Leads p i (PSpaced t) c s
adv_spaced p i t c s o z White e h = stay p i (PSpaced t) (PSpaced (wider t c)) c s o (z.0, wider_ok t c z.1 e, filled_more t.white c) (wider_text t c) h
adv_spaced p i t c s o z Slash e h = stay p i (PSpaced t) (PSlashed t) c s o (z.0, z.1) (ap (λ y. tag_text t ++ (y ∷ [])) (fits_at c Slash e)) h
adv_spaced p i t c s o z Greater e h = opens p i t (PSpaced t) c s o z.0 z.1 (ap (λ y. tag_text t ++ (y ∷ [])) (fits_at c Greater e)) (ap (λ (y : Held). at y Inside) (held_open p i t) ∙ h)
adv_spaced p i t c s o z Letter e h = stay p i (PSpaced t) (PKeyed t (c ∷ [])) c s o (z.0, (z.1, z.2, (e, tt))) refl h
adv_spaced p i t c s o z k e h = absurd (none_some h)

pub adv_tight : (p : Path) (i : Items) (t : Tag) (c : ℕ) (s : State) → Placed p i → Part_ok p i (PTight t) → (k : Class) → class_of c ≡ k → in_tight (head_of (here p i) t) (held_of p i) k ≡ Some s → Leads p i (PTight t) c s
adv_tight p i t c s o z White e h = stay p i (PTight t) (PSpaced (wider t c)) c s o (z.0, wider_ok t c z.1 e, filled_more t.white c) (wider_text t c) h
adv_tight p i t c s o z Slash e h = stay p i (PTight t) (PSlashed t) c s o (z.0, z.1) (ap (λ y. tag_text t ++ (y ∷ [])) (fits_at c Slash e)) h
adv_tight p i t c s o z Greater e h = opens p i t (PTight t) c s o z.0 z.1 (ap (λ y. tag_text t ++ (y ∷ [])) (fits_at c Greater e)) (ap (λ (y : Held). at y Inside) (held_open p i t) ∙ h)
adv_tight p i t c s o z k e h = absurd (none_some h)

pub adv_slashed : (p : Path) (i : Items) (t : Tag) (c : ℕ) (s : State) → Placed p i → Part_ok p i (PSlashed t) → (k : Class) → class_of c ≡ k → in_slashed (head_of (here p i) t) (held_of p i) k ≡ Some s → Leads p i (PSlashed t) c s
adv_slashed p i t c s o z Greater e h = done p i (Leaf i t) (PSlashed t) c s (tag_text t ++ (47 ∷ (62 ∷ []))) o.0 (leaf_ok p i t o.1 z.0 z.1) refl
    (append_assoc (tag_text t) (47 ∷ []) (c ∷ []) ∙ ap (λ y. tag_text t ++ (47 ∷ (y ∷ []))) (fits_at c Greater e))
    (ap (λ (y : Held). at y Inside) (held_leaf p i t) ∙ h)
adv_slashed p i t c s o z k e h = absurd (none_some h)

-- attributes

pub fresh_key : (q : Position) (t : Tag) (key : List ℕ) → is_fresh key (head_of q t) ≡ true → is_among key (keys t.attributes) ≡ false
fresh_key q t key e = sym (ap (λ y. is_among key y) (keys_of_are (after_all q (60 ∷ t.name)) t.attributes)) ∙ not_false (is_among key (keys_of (attributes_of (after_all q (60 ∷ t.name)) t.attributes))) e

keyed_more : (p : Path) (i : Items) (t : Tag) (key : List ℕ) (c : ℕ) (s : State) → Placed p i → Part_ok p i (PKeyed t key) → (k : Class) → class_of c ≡ k → some_if (in_name k) (at (held_of p i) (Keyed (head_of (here p i) t) (after_all (here p i) (tag_text t)) (key ++ (c ∷ [])))) ≡ Some s → Leads p i (PKeyed t key) c s
keyed_more p i t key c s o z k e h =
    let r = if_some (in_name k) (at (held_of p i) (Keyed (head_of (here p i) t) (after_all (here p i) (tag_text t)) (key ++ (c ∷ [])))) s h in
    stay p i (PKeyed t key) (PKeyed t (key ++ (c ∷ []))) c s o (z.0, (z.1.0, z.1.1, name_more key c z.1.2 (named_at c k e r.0))) (append_assoc (tag_text t) key (c ∷ [])) r.1

pub adv_keyed : (p : Path) (i : Items) (t : Tag) (key : List ℕ) (c : ℕ) (s : State) → Placed p i → Part_ok p i (PKeyed t key) → (k : Class) → class_of c ≡ k → in_keyed (head_of (here p i) t) (after_all (here p i) (tag_text t)) key (held_of p i) c k ≡ Some s → Leads p i (PKeyed t key) c s
adv_keyed p i t key c s o z White e h =
    let r = if_some (is_fresh key (head_of (here p i) t)) (at (held_of p i) (KeySpaced (head_of (here p i) t) (after_all (here p i) (tag_text t)) key)) s h in
    stay p i (PKeyed t key) (PKeySpaced t key (c ∷ [])) c s o (z.0, (z.1, fresh_key (here p i) t key r.0, (e, tt))) (append_assoc (tag_text t) key (c ∷ [])) r.1
adv_keyed p i t key c s o z Equals e h =
    let r = if_some (is_fresh key (head_of (here p i) t)) (at (held_of p i) (Signed (head_of (here p i) t) (after_all (here p i) (tag_text t)) key)) s h in
    stay p i (PKeyed t key) (PSigned t key [] []) c s o (z.0, (z.1, fresh_key (here p i) t key r.0, tt), tt) (append_assoc (tag_text t) key (c ∷ []) ∙ ap (λ y. tag_text t ++ (key ++ (y ∷ []))) (fits_at c Equals e)) r.1
adv_keyed p i t key c s o z k e h = keyed_more p i t key c s o z k e h

pub adv_key_spaced : (p : Path) (i : Items) (t : Tag) (key w : List ℕ) (c : ℕ) (s : State) → Placed p i → Part_ok p i (PKeySpaced t key w) → (k : Class) → class_of c ≡ k → in_key_spaced (head_of (here p i) t) (after_all (here p i) (tag_text t)) key (held_of p i) k ≡ Some s → Leads p i (PKeySpaced t key w) c s
adv_key_spaced p i t key w c s o z White e h = stay p i (PKeySpaced t key w) (PKeySpaced t key (w ++ (c ∷ []))) c s o
    (z.0, (z.1.0, z.1.1, each_more IsWhite w c z.1.2 e)) (append_assoc (tag_text t) (key ++ w) (c ∷ []) ∙ ap (λ y. tag_text t ++ y) (append_assoc key w (c ∷ []))) h
adv_key_spaced p i t key w c s o z Equals e h = stay p i (PKeySpaced t key w) (PSigned t key w []) c s o
    (z.0, z.1, tt) (append_assoc (tag_text t) (key ++ w) (c ∷ []) ∙ ap (λ y. tag_text t ++ y) (append_assoc key w (c ∷ []) ∙ ap (λ y. key ++ (w ++ (y ∷ []))) (fits_at c Equals e))) h
adv_key_spaced p i t key w c s o z k e h = absurd (none_some h)

signed_text : (t : Tag) (key w v u : List ℕ) → (tag_text t ++ (key ++ (w ++ (61 ∷ v)))) ++ u ≡ tag_text t ++ (key ++ (w ++ (61 ∷ (v ++ u))))
signed_text t key w v u =
    append_assoc (tag_text t) (key ++ (w ++ (61 ∷ v))) u
    ∙ ap (λ y. tag_text t ++ y) (append_assoc key (w ++ (61 ∷ v)) u ∙ ap (λ y. key ++ y) (append_assoc w (61 ∷ v) u))

pub adv_signed : (p : Path) (i : Items) (t : Tag) (key w v : List ℕ) (c : ℕ) (s : State) → Placed p i → Part_ok p i (PSigned t key w v) → (k : Class) → class_of c ≡ k → in_signed (head_of (here p i) t) (after_all (here p i) (tag_text t)) key (held_of p i) k ≡ Some s → Leads p i (PSigned t key w v) c s
adv_signed p i t key w v c s o z White e h = stay p i (PSigned t key w v) (PSigned t key w (v ++ (c ∷ []))) c s o
    (z.0, z.1, each_more IsWhite v c z.2 e) (signed_text t key w v (c ∷ [])) h
adv_signed p i t key w v c s o z Quotation e h = stay p i (PSigned t key w v) (PQuoted t key w v Double []) c s o
    (z.0, z.1, z.2, tt) (signed_text t key w v (c ∷ []) ∙ ap (λ y. tag_text t ++ (key ++ (w ++ (61 ∷ (v ++ (y ∷ [])))))) (fits_at c Quotation e)) h
adv_signed p i t key w v c s o z Apostrophe e h = stay p i (PSigned t key w v) (PQuoted t key w v Single []) c s o
    (z.0, z.1, z.2, tt) (signed_text t key w v (c ∷ []) ∙ ap (λ y. tag_text t ++ (key ++ (w ++ (61 ∷ (v ++ (y ∷ [])))))) (fits_at c Apostrophe e)) h
adv_signed p i t key w v c s o z k e h = absurd (none_some h)

-- values

quote_is : (u : Quote) (c : ℕ) (k : Class) → class_of c ≡ k → is_quote u k ≡ true → c ≡ quote_code u
quote_is Single c Apostrophe e h = fits_at c Apostrophe e
quote_is Double c Quotation e h = fits_at c Quotation e
quote_is u c k e h = absurd (let g : false ≡ true = h in cc)

abbrev whole : List ℕ → List ℕ → List ℕ → List ℕ → Quote → List Sign → Written
whole b key w v u value = record { white = b; key = key; before = w; behind = v; quote = u; value = value }

abbrev with_whole : Tag → List ℕ → List ℕ → List ℕ → Quote → List Sign → Tag
with_whole t key w v u value = record { name = t.name; attributes = t.attributes ++ (whole t.white key w v u value ∷ []); white = [] }

value_tail : (k w v m : List ℕ) (q : ℕ) → (k ++ (w ++ (61 ∷ (v ++ (q ∷ m))))) ++ (q ∷ []) ≡ k ++ (w ++ (61 ∷ (v ++ (q ∷ (m ++ (q ∷ []))))))
value_tail k w v m q = append_assoc k (w ++ (61 ∷ (v ++ (q ∷ m)))) (q ∷ []) ∙ ap (λ y. k ++ y) (append_assoc w (61 ∷ (v ++ (q ∷ m))) (q ∷ []) ∙ ap (λ y. w ++ (61 ∷ y)) (append_assoc v (q ∷ m) (q ∷ [])))

whole_lists : (z a b x y u : List ℕ) → x ++ u ≡ y → ((z ++ (a ++ b)) ++ x) ++ u ≡ z ++ ((a ++ ((b ++ y) ++ [])) ++ [])
whole_lists z a b x y u e =
    append_assoc (z ++ (a ++ b)) x u
    ∙ (ap (λ t. (z ++ (a ++ b)) ++ t) e
    ∙ simp (append_assoc, append-nil))

with_whole_text : (t : Tag) (key w v : List ℕ) (u : Quote) (value : List Sign) → value_part t key w v u value ++ (quote_code u ∷ []) ≡ tag_text (with_whole t key w v u value)
with_whole_text t key w v u value =
    whole_lists (60 ∷ t.name) (attributes_text t.attributes) t.white (key ++ (w ++ (61 ∷ (v ++ (quote_code u ∷ signs_text value))))) (key ++ (w ++ (61 ∷ (v ++ (quote_code u ∷ (signs_text value ++ (quote_code u ∷ []))))))) (quote_code u ∷ []) (value_tail key w v (signs_text value) (quote_code u))
    ∙ ap (λ y. (60 ∷ t.name) ++ (y ++ [])) (sym (attributes_text-append t.attributes (whole t.white key w v u value ∷ [])))

with_whole_head : (q : Position) (t : Tag) (key w v : List ℕ) (u : Quote) (value : List Sign) → head_of q (with_whole t key w v u value) ≡ with_attribute (head_of q t) (after_all q (tag_text t)) key (value_of value)
with_whole_head q t key w v u value =
    ap (λ (y : List Attr). record { name = t.name; attributes = y; position = q })
    (attributes_of-more (after_all q (60 ∷ t.name)) t.attributes (whole t.white key w v u value)
    ∙ ap (λ (y : Position). attributes_of (after_all q (60 ∷ t.name)) t.attributes ++ (record { name = key; value = value_of value; position = y } ∷ []))
    (sym (after-append (after_all q (60 ∷ t.name)) (attributes_text t.attributes) t.white) ∙ sym (after-append q (60 ∷ t.name) (attributes_text t.attributes ++ t.white))))

pub value_text : (t : Tag) (key w v : List ℕ) (u : Quote) (value : List Sign) (x : Sign) → value_part t key w v u value ++ sign_text x ≡ value_part t key w v u (value ++ (x ∷ []))
value_text t key w v u value x = simp (signs_text-append, append_assoc, append-nil)

pub value_signs : (value : List Sign) (x : Sign) → value_of (value ++ (x ∷ [])) ≡ value_of value ++ sign_value x
value_signs value x = value_of-append value (x ∷ []) ∙ ap (λ y. value_of value ++ y) (append-nil (sign_value x))

length_one : (value : List Sign) (x : Sign) → length (value ++ (x ∷ [])) ≡ length value + 1
length_one value x = length-append value (x ∷ [])

-- one sign more in a value
pub sign_more : (p : Path) (i : Items) (t : Tag) (key w v : List ℕ) (u : Quote) (value : List Sign) (x : Sign) (s : State) → Part_ok p i (PQuoted t key w v u value) → Value_sign_ok u x
    → at (held_of p i) (Quoted (head_of (here p i) t) (after_all (here p i) (tag_text t)) key u (value_of value ++ sign_value x) (length value + 1)) ≡ Some s
    → Some (state_of p i (PQuoted t key w v u (value ++ (x ∷ [])))) ≡ Some s
sign_more p i t key w v u value x s z e h =
    ap (λ y. at (held_of p i) (Quoted (head_of (here p i) t) (after_all (here p i) (tag_text t)) key u y (length (value ++ (x ∷ []))))) (value_signs value x)
    ∙ (ap (λ y. at (held_of p i) (Quoted (head_of (here p i) t) (after_all (here p i) (tag_text t)) key u (value_of value ++ sign_value x) y)) (length_one value x) ∙ h)

adv_value : (p : Path) (i : Items) (t : Tag) (key w v : List ℕ) (u : Quote) (value : List Sign) (c : ℕ) (s : State) → Placed p i → Part_ok p i (PQuoted t key w v u value) → (k : Class) → class_of c ≡ k → is_plain k ≡ true
    → (b : Bool) → is_quote u k ≡ b → in_value b (head_of (here p i) t) (after_all (here p i) (tag_text t)) key u (value_of value) (length value) (held_of p i) c k ≡ Some s → Leads p i (PQuoted t key w v u value) c s
adv_value p i t key w v u value c s o z k e f true g h =
    let a = z.1.0 in
    stay p i (PQuoted t key w v u value) (PTight (with_whole t key w v u value)) c s o
    (z.0, (a.0.0, attributes_more [] t.attributes (whole t.white key w v u value) a.0.1 (a.1, a.0.2, a.2, z.1.2, z.2, z.3) z.1.1, tt), refl)
    (ap (λ y. value_part t key w v u value ++ (y ∷ [])) (quote_is u c k e g) ∙ with_whole_text t key w v u value)
    (ap (λ (y : Head). at (held_of p i) (Tight y)) (with_whole_head (here p i) t key w v u value) ∙ h)
adv_value p i t key w v u value c s o z k e f false g h =
    stay p i (PQuoted t key w v u value) (PQuoted t key w v u (value ++ (Plain c ∷ []))) c s o
    (z.0, z.1, z.2, value_more u value (Plain c) z.3 (ap is_plain e ∙ f, ap (λ y. is_quote u y) e ∙ g))
    (value_text t key w v u value (Plain c))
    (sign_more p i t key w v u value (Plain c) s z (ap is_plain e ∙ f, ap (λ y. is_quote u y) e ∙ g)
    (ap (λ (y : Class). at (held_of p i) (Quoted (head_of (here p i) t) (after_all (here p i) (tag_text t)) key u (value_of value ++ value_byte y c) (length value + 1))) e ∙ h))

pub adv_quoted : (p : Path) (i : Items) (t : Tag) (key w v : List ℕ) (u : Quote) (value : List Sign) (c : ℕ) (s : State) → Placed p i → Part_ok p i (PQuoted t key w v u value) → (k : Class) → class_of c ≡ k
    → in_quoted (after_all (here p i) (value_part t key w v u value)) (head_of (here p i) t) (after_all (here p i) (tag_text t)) key u (value_of value) (length value) (held_of p i) c k ≡ Some s → Leads p i (PQuoted t key w v u value) c s
adv_quoted p i t key w v u value c s o z Less e h = absurd (none_some h)
adv_quoted p i t key w v u value c s o z Ampersand e h = stay p i (PQuoted t key w v u value) (PValueReferring t key w v u value Begun []) c s o
    (z.0, z.1, z.2, z.3, tt) (ap (λ y. value_part t key w v u value ++ (y ∷ [])) (fits_at c Ampersand e)) h
adv_quoted p i t key w v u value c s o z k e h = adv_value p i t key w v u value c s o z k e refl (is_quote u k) refl h

-- the ends of elements

pub adv_ended : (p : Path) (i : Items) (n w : List ℕ) (c : ℕ) (s : State) → Placed p i → Part_ok p i (PEnded n w) → (k : Class) → class_of c ≡ k → in_ended (held_of p i) k ≡ Some s → Leads p i (PEnded n w) c s
adv_ended p i n w c s o z White e h = stay p i (PEnded n w) (PEnded n (w ++ (c ∷ []))) c s o (z.0, each_more IsWhite w c z.1 e) (ap (λ y. 60 ∷ (47 ∷ y)) (append_assoc n w (c ∷ []))) h
adv_ended Top i n w c s o z Greater e h = absurd z.0
adv_ended (Within p j t) i n w c s o z Greater e h = closes p j t i w (PEnded n w) c s o z.1
    (ap (λ y. 60 ∷ (47 ∷ y)) (append_assoc n w (c ∷ []) ∙ (ap (λ y. n ++ (w ++ (y ∷ []))) (fits_at c Greater e) ∙ ap (λ y. y ++ (w ++ (62 ∷ []))) z.0))) h
adv_ended p i n w c s o z k e h = absurd (none_some h)

open_name : (p : Path) (n m : List ℕ) → n ≡ m → IsOpenName p n → IsOpenName p m
open_name p n m e o = subst (IsOpenName p) e o

adv_named_end : (p : Path) (i : Items) (said : List ℕ) (c : ℕ) (s : State) → Placed p i → IsOpenName p said → (k : Class) → class_of c ≡ k → in_ended (held_of p i) k ≡ Some s → Leads p i (PEnding said []) c s
adv_named_end p i said c s o z White e h = stay p i (PEnding said []) (PEnded said (c ∷ [])) c s o (z, (e, tt)) refl h
adv_named_end Top i said c s o z Greater e h = absurd z
adv_named_end (Within p j t) i said c s o z Greater e h = closes p j t i [] (PEnding said []) c s o tt
    (ap (λ y. 60 ∷ (47 ∷ (said ++ (y ∷ [])))) (fits_at c Greater e) ∙ ap (λ y. 60 ∷ (47 ∷ (y ++ (62 ∷ [])))) z) h
adv_named_end p i said c s o z k e h = absurd (none_some h)

eqb_same : (c x : ℕ) → eqb c x ≡ true → c ≡ x
eqb_same c x e = grind (arith, e)

pub adv_ending : (p : Path) (i : Items) (said rest : List ℕ) (c : ℕ) (s : State) → Placed p i → Part_ok p i (PEnding said rest) → (k : Class) → class_of c ≡ k → in_ending rest (held_of p i) c k ≡ Some s → Leads p i (PEnding said rest) c s
adv_ending p i said [] c s o z k e h = adv_named_end p i said c s o (open_name p (said ++ []) said (append-nil said) z) k e h
adv_ending p i said (x ∷ rest) c s o z k e h =
    let r = if_some (eqb c x) (at (held_of p i) (Ending rest)) s h in
    stay p i (PEnding said (x ∷ rest)) (PEnding (said ++ (c ∷ [])) rest) c s o
    (open_name p (said ++ (x ∷ rest)) ((said ++ (c ∷ [])) ++ rest) (ap (λ y. said ++ (y ∷ rest)) (sym (eqb_same c x r.0)) ∙ sym (append_assoc said (c ∷ []) rest)) z) refl r.1

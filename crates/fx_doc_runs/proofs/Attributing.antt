-- Attributes that are taken whole, and values: their references, and their quote.
-- Above the lemmas on names of attributes; the answers on attributes and values cite these.
use Rattle.std.proofs.Common.{◌≡◌, ℕ, ◌+◌, ◌<◌, ◌≤◌, true, false, ◌&&◌, List, [], ◌∷◌, ◌++◌, Some, length, refl, sym, ◌∙◌, ap, subst, append_assoc, arith}
use Rattle.std.specs.String.{string_bytes}
use lib.Utf8.{encode}
use Rattle.fx_base.specs.Positions.{after, after_all}
use Rattle.fx_base.specs.declared.positions.Position.{Position}
use Rattle.fx_doc_grammar.specs.Characters.{class_of}
use Rattle.fx_doc_grammar.specs.Grammar.{Head as HeadView, quote_code}
use Rattle.fx_doc_grammar.specs.declared.Quote.{Quote}
use Rattle.fx_doc_grammar.specs.declared.Entity.{Entity}
use Rattle.fx_doc_grammar.specs.declared.Entity.TheVariants.{Begun}
use Rattle.fx_doc_grammar.specs.Machine.{State, Held as HeldView, Spaced, Tight, ValueReferring, step, is_fresh, with_attribute, level_long, in_value_referring}
use Rattle.fx_doc_grammar.proofs.Marks.{as_state}
use Rattle.fx_doc_grammar.proofs.TagGoes.{quote_ends}
use Rattle.fx_doc_drafts.specs.Ahead.{is_plain}
use Rattle.fx_doc_drafts.specs.declared.drafts.Draft.{Draft}
use Rattle.fx_doc_runs.specs.Reached.{Calm, TookFlat, TookWhole, TookValue, IsRun, quoted_at}
use Rattle.fx_doc_runs.specs.Keys.{IsKey}
use Rattle.fx_doc_runs.specs.References.{Letters, IsReference}
use Rattle.fx_doc_runs.specs.Views.{view, head_view, held_view}
use Rattle.fx_doc_runs.specs.declared.modes.Head.{Head}
use Rattle.fx_doc_runs.specs.declared.modes.Mode.{Mode}
use Rattle.fx_doc_runs.specs.declared.modes.Mode.TheVariants as v
use Rattle.fx_doc_runs.specs.declared.modes.Reader.{Reader}
use Rattle.fx_doc_runs.specs.declared.modes.Valued.{Valued}
use Rattle.fx_doc_runs.proofs.Calm.{one_calm, short_or, quoting}
use Rattle.fx_doc_runs.proofs.Carried.{in_mode}
use Rattle.fx_doc_runs.proofs.Flowing.{calm_then, flat_then, flat_append, value_taken}
use Rattle.fx_doc_runs.proofs.Keying.{key_took}
use Rattle.fx_doc_runs.proofs.Shorts.{level_short}
use Rattle.fx_doc_runs.proofs.Signing.{letters_flat}
use Rattle.fx_doc_runs.proofs.Whole.{quote_flat}

-- the quote behind a value -------------------------------------------------------------------------

quote_took : (h : HeldView) (head : HeadView) (q : Position) (key : List ℕ) (u : Quote) (w : List ℕ) (n : ℕ)
    (text rest : List ℕ) (p : Position) → level_long h ≡ false → text ≡ quote_code u ∷ rest
    → TookFlat text p (quoting h head q key u w n) rest (as_state h (Tight (with_attribute head q key w)))
quote_took h head q key u w n text rest p l e = record {
  part = quote_code u ∷ [];
  split = e;
  flat = ap (λ b. b && true) (quote_flat u);
  calm = one_calm p (quoting h head q key u w n) (as_state h (Tight (with_attribute head q key w))) (quote_code u) []
      (as_state h (Tight (with_attribute head q key w))) (quote_ends h head q key u w n p) refl l refl;
}

-- an attribute whose value is plain ----------------------------------------------------------------

whole_took : (h : HeldView) (head : HeadView) (rest name behind value left last : List ℕ) (u : Quote) (code : ℕ)
    (p : Position) → level_long h ≡ false → IsKey rest name u behind → is_fresh name head ≡ true
    → code ≡ quote_code u → IsRun (is_plain code) behind value left → length value ≤ 4096 → left ≡ code ∷ last
    → TookFlat rest p (as_state h (Spaced head)) last (as_state h (Tight (with_attribute head p name value)))
whole_took h head rest name behind value left last u code p l k f c r s e =
    let s0 : State = as_state h (Spaced head) in
    let s1 : State = quoting h head p name u [] 0 in
    let s2 : State = quoting h head p name u value (0 + length value) in
    let s3 : State = as_state h (Tight (with_attribute head p name value)) in
    let few : 0 + length value ≤ 4096 = omega arith in
    flat_then rest behind last p s0 s1 s3 (key_took h head rest name behind u p l k f)
    (λ q. flat_then behind left last q s1 s2 s3
    (value_taken h head p name u code [] value 0 (0 + length value) behind value left q c l r few refl refl)
    (λ t. quote_took h head p name u value (0 + length value) left last t l
    (e ∙ ap (λ y. y ∷ last) c)))

pub head_took : (a d : Head) (rest name behind value left last : List ℕ) (u : Quote) (code : ℕ) (p : Position)
    → IsKey rest name u behind → is_fresh name (head_view a) ≡ true → code ≡ quote_code u
    → IsRun (is_plain code) behind value left → length value ≤ 4096 → left ≡ code ∷ last
    → head_view d ≡ with_attribute (head_view a) p name value → TookWhole rest p a last d
head_took a d rest name behind value left last u code p k f c r s e w = λ h l.
    subst (λ (y : HeadView). TookFlat rest p (as_state h (Spaced (head_view a))) last (as_state h (Tight y))) (sym w)
    (whole_took h (head_view a) rest name behind value left last u code p l k f c r s e)

-- references in a value ----------------------------------------------------------------------------

abbrev referring : HeldView → HeadView → Position → List ℕ → Quote → List ℕ → ℕ → Position → Entity → State
referring h head q key u w n r e = as_state h (ValueReferring head q key u w n r e)

letters_calm : (h : HeldView) (head : HeadView) (q : Position) (key : List ℕ) (u : Quote) (w : List ℕ) (n : ℕ)
    (r : Position) → level_long h ≡ false → n ≤ 4096 → (e : Entity) (xs : List ℕ) (f : Entity) (p : Position)
    → Letters e xs f → Calm p (referring h head q key u w n r e) xs (referring h head q key u w n r f)
letters_calm h head q key u w n r l s e [] f p x = ap (λ (y : Entity). referring h head q key u w n r y) x
letters_calm h head q key u w n r l s e (c ∷ xs) f p x =
    one_calm p (referring h head q key u w n r e) (referring h head q key u w n r x.0) c xs
    (referring h head q key u w n r f) (ap (in_value_referring head q key u w n r h) x.1) refl
    (short_or n (level_long h) s l) (letters_calm h head q key u w n r l s x.0 xs f (after p c) x.3)

ampersand_on : (h : HeldView) (head : HeadView) (q : Position) (key : List ℕ) (u : Quote) (w : List ℕ) (n : ℕ)
    (p : Position) → step p (quoting h head q key u w n) 38 ≡ Some (referring h head q key u w n p Begun)
unfolding class_of
ampersand_on h head q key u w n p = refl

reference_took : (h : HeldView) (head : HeadView) (q : Position) (key : List ℕ) (u : Quote) (w : List ℕ) (n : ℕ)
    (text rest : List ℕ) (c : ℕ) (p : Position) → level_long h ≡ false → n < 4096 → IsReference text c rest
    → TookFlat text p (quoting h head q key u w n) rest (quoting h head q key u (w ++ encode c) (n + 1))
reference_took h head q key u w n text rest c p l s k =
    let a = k.refers in
    let t = after_all (after p 38) a.letters in
    let few : n ≤ 4096 = omega arith in
    let room : n + 1 ≤ 4096 = omega arith in
    let goal : State = quoting h head q key u (w ++ encode c) (n + 1) in
    record {
      part = 38 ∷ (a.letters ++ (a.last ∷ []));
      split = k.begun ∙ ap (λ y. 38 ∷ y) (a.split ∙ sym (append_assoc a.letters (a.last ∷ []) rest));
      flat = flat_append a.letters (a.last ∷ []) (letters_flat Begun a.letters a.end a.along)
          (ap (λ b. b && true) a.flat);
      calm = one_calm p (quoting h head q key u w n) (referring h head q key u w n p Begun) 38
          (a.letters ++ (a.last ∷ [])) goal (ampersand_on h head q key u w n p) refl (short_or n (level_long h) few l)
          (calm_then (after p 38) (referring h head q key u w n p Begun) a.letters
          (referring h head q key u w n p a.end) (a.last ∷ []) goal
          (letters_calm h head q key u w n p l few Begun a.letters a.end (after p 38) a.along)
          (one_calm t (referring h head q key u w n p a.end) goal a.last [] goal
          (ap (in_value_referring head q key u w n p h) a.whole) refl (short_or (n + 1) (level_long h) room l) refl));
    }

abbrev pub valued_with : Valued → Draft → Valued
valued_with x d = record { head = x.head; position = x.position; key = x.key; quote = x.quote; value = d }

pub value_then : (a b c : List ℕ) (x y z : Valued) → TookValue a x b y → TookValue b y c z → TookValue a x c z
value_then a b c x y z s t = λ h p l. flat_then a b c p (quoted_at h x) (quoted_at h y) (quoted_at h z) (s h p l)
    (λ q. t h q l)

pub value_refers : (x : Valued) (d : Draft) (text rest : List ℕ) (c : ℕ) → IsReference text c rest
    → x.value.count < 4096 → string_bytes d.text ≡ string_bytes x.value.text ++ encode c → d.count
    ≡ x.value.count + 1 → TookValue text x rest (valued_with x d)
value_refers x d text rest c k s e f = λ h p l.
    let same : quoting h (head_view x.head) x.position (string_bytes x.key.text) x.quote
    (string_bytes x.value.text ++ encode c) (x.value.count + 1) ≡ quoted_at h (valued_with x d) =
    λ i. quoting h (head_view x.head) x.position (string_bytes x.key.text) x.quote (sym e i) (sym f i) in
    subst (λ (y : State). TookFlat text p (quoted_at h x) rest y) same
    (reference_took h (head_view x.head) x.position (string_bytes x.key.text) x.quote (string_bytes x.value.text)
    x.value.count text rest c p l s k)

pub value_none : (text : List ℕ) (x : Valued) → TookValue text x text x
value_none text x = λ h p l. record { part = []; split = refl; flat = refl; calm = refl }

-- a value with its quote ---------------------------------------------------------------------------

pub value_whole : (r : Reader) (x y z : Valued) (d : Head) (text left rest : List ℕ) (code : ℕ)
    (p : Position) → r.mode ≡ v.Quoted x → TookValue text x left y → code ≡ quote_code y.quote → left ≡ code ∷ rest
    → v.Quoted y ≡ v.Quoted z → head_view d ≡ with_attribute (head_view z.head) z.position
    (string_bytes z.key.text) (string_bytes z.value.text) → TookFlat text p (view r) rest (in_mode r (v.Tight d))
value_whole r x y z d text left rest code p e t c f i w =
    let same : z ≡ y = Prim.cc in
    let h = held_view r.held in
    let goal : HeadView → State = λ k. as_state h (Tight k) in
    let is : with_attribute (head_view y.head) y.position (string_bytes y.key.text) (string_bytes y.value.text)
    ≡ head_view d =
    sym (w ∙ ap (λ (k : Valued). with_attribute (head_view k.head) k.position (string_bytes k.key.text)
    (string_bytes k.value.text)) same) in
    subst (λ (k : Mode). TookFlat text p (in_mode r k) rest (in_mode r (v.Tight d))) (sym e)
    (subst (λ (k : HeadView). TookFlat text p (quoted_at h x) rest (goal k)) is
    (flat_then text left rest p (quoted_at h x) (quoted_at h y)
    (goal (with_attribute (head_view y.head) y.position (string_bytes y.key.text) (string_bytes y.value.text)))
    (t h p (level_short r))
    (λ q. quote_took h (head_view y.head) y.position (string_bytes y.key.text) y.quote (string_bytes y.value.text)
    y.value.count left rest q (level_short r) (f ∙ ap (λ k. k ∷ rest) c))))

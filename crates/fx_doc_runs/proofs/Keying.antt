-- The name of an attribute with its `=` and its quote, as the reader takes it.
-- Above the lemmas on runs; the answers on `take_key` cite these.
use Rattle.std.proofs.Common.{◌≡◌, ℕ, ◌≤◌, Bool, true, false, ◌&&◌, List, [], ◌∷◌, ◌++◌, take, drop, Some, length, refl, sym, ◌∙◌, ap, subst, append_assoc, arith}
use Rattle.std.specs.List.{list_all, prefix_len}
use Rattle.std.specs.String.{string_bytes}
use Rattle.std.proofs.lemmas.List.{take-append-drop}
use Rattle.fx_base.specs.Positions.{after}
use Rattle.fx_base.specs.declared.positions.Position.{Position}
use Rattle.fx_doc_grammar.specs.Characters.{class_of}
use Rattle.fx_doc_grammar.specs.Grammar.{Head as HeadView, quote_code}
use Rattle.fx_doc_grammar.specs.Machine.{State, Held, Spaced, Keyed, KeySpaced, Signed, Quoted, at, step, is_fresh, level_long, in_keyed, in_key_spaced, in_signed}
use Rattle.fx_doc_grammar.specs.declared.Class.{Class}
use Rattle.fx_doc_grammar.specs.declared.Quote.{Quote}
use Rattle.fx_doc_grammar.proofs.Marks.{as_state}
use Rattle.fx_text.proofs.FrontLemmas.{front-passes}
use Rattle.fx_doc_drafts.specs.Ahead.{is_flat, is_gap, is_named, begins_name}
use Rattle.fx_doc_runs.specs.Reached.{Calm, TookFlat, IsRun}
use Rattle.fx_doc_runs.specs.Keys.{IsKey, IsNameAhead}
use Rattle.fx_doc_runs.specs.Views.{view, head_view, held_view}
use Rattle.fx_doc_runs.specs.declared.modes.Head.{Head}
use Rattle.fx_doc_runs.specs.declared.modes.Valued.{Valued}
use Rattle.fx_doc_runs.specs.declared.modes.Mode.{Mode as ModeHere}
use Rattle.fx_doc_runs.specs.declared.modes.Mode.TheVariants as v
use Rattle.fx_doc_runs.specs.declared.modes.Reader.{Reader}
use Rattle.fx_doc_runs.proofs.Calm.{one_calm, short_or, keyed_calm, if_fresh, first_on, equals_on, quote_on, quoting}
use Rattle.fx_doc_runs.proofs.Flowing.{gap_class, gap_all_flat, flat_append}
use Rattle.fx_doc_runs.proofs.Shorts.{level_short}
use Rattle.fx_doc_runs.proofs.Whole.{all_flat, named_flat, quote_flat, same_fresh}
use Rattle.fx_doc_runs.proofs.Carried.{in_mode}

both : (a b : Bool) → (a && b) ≡ true → (a ≡ true) × (b ≡ true)
both true b e = (refl, e)
both false b e = Prim.cc

-- what code cuts ----------------------------------------------------------------------------------

pub name_is : (text bytes name rest : List ℕ) (n : ℕ) → n ≡ prefix_len is_named bytes → bytes ≡ text → name ≡ take n text → rest ≡ drop n text → begins_name name ≡ true → length name ≤ 4096 → IsNameAhead text name rest
name_is text bytes name rest n e b f g w s = record {
  split = sym (take-append-drop n text) ∙ (ap (λ y. y ++ drop n text) (sym f) ∙ ap (λ y. name ++ y) (sym g));
  begins = w;
  named = ap (list_all is_named) (f ∙ ap (λ m. take m text) (e ∙ ap (prefix_len is_named) b)) ∙ front-passes is_named text;
  short = s;
}

pub key_is : (text name r0 before r1 r2 after r3 behind : List ℕ) (u : Quote) → IsNameAhead text name r0 → IsRun is_gap r0 before r1 → r1 ≡ 61 ∷ r2 → IsRun is_gap r2 after r3 → r3 ≡ quote_code u ∷ behind → IsKey text name u behind
key_is text name r0 before r1 r2 after r3 behind u n b e a q = record {
  before = before;
  after = after;
  written = n.split ∙ ap (λ y. name ++ y) (b.split ∙ ap (λ y. before ++ y) (e ∙ ap (λ y. 61 ∷ y) (a.split ∙ ap (λ y. after ++ y) q)));
  begins = n.begins;
  named = n.named;
  short = n.short;
  white_before = b.each;
  white_after = a.each;
}

-- the walk ----------------------------------------------------------------------------------------

signed_calm : (h : Held) (head : HeadView) (q : Position) (key : List ℕ) (u : Quote) → level_long h ≡ false → (gap : List ℕ) (p : Position) → list_all is_gap gap ≡ true → Calm p (as_state h (Signed head q key)) (gap ++ (quote_code u ∷ [])) (quoting h head q key u [] 0)
signed_calm h head q key u l [] p e =
    one_calm p (as_state h (Signed head q key)) (quoting h head q key u [] 0) (quote_code u) [] (quoting h head q key u [] 0) (quote_on h head q key u p) refl (short_or 0 (level_long h) (omega arith) l) refl
signed_calm h head q key u l (c ∷ gap) p e =
    let a = both (is_gap c) (list_all is_gap gap) e in
    one_calm p (as_state h (Signed head q key)) (as_state h (Signed head q key)) c (gap ++ (quote_code u ∷ [])) (quoting h head q key u [] 0) (ap (λ (k : Class). in_signed head q key h k) (gap_class c a.0)) refl l
    (signed_calm h head q key u l gap (after p c) a.1)

spaced_equals : (h : Held) (head : HeadView) (q : Position) (key : List ℕ) (p : Position) → step p (as_state h (KeySpaced head q key)) 61 ≡ Some (as_state h (Signed head q key))
unfolding class_of
spaced_equals h head q key p = refl

key_spaced_calm : (h : Held) (head : HeadView) (q : Position) (key : List ℕ) (rest : List ℕ) (s : State) → level_long h ≡ false → ((t : Position) → Calm t (as_state h (Signed head q key)) rest s) → (gap : List ℕ) (p : Position) → list_all is_gap gap ≡ true
    → Calm p (as_state h (KeySpaced head q key)) (gap ++ (61 ∷ rest)) s
key_spaced_calm h head q key rest s l w [] p e = one_calm p (as_state h (KeySpaced head q key)) (as_state h (Signed head q key)) 61 rest s (spaced_equals h head q key p) refl l (w (after p 61))
key_spaced_calm h head q key rest s l w (c ∷ gap) p e =
    let a = both (is_gap c) (list_all is_gap gap) e in
    one_calm p (as_state h (KeySpaced head q key)) (as_state h (KeySpaced head q key)) c (gap ++ (61 ∷ rest)) s (ap (λ (k : Class). in_key_spaced head q key h k) (gap_class c a.0)) refl l
    (key_spaced_calm h head q key rest s l w gap (after p c) a.1)

named_gap : (h : Held) (head : HeadView) (q : Position) (key : List ℕ) (c : ℕ) → is_fresh key head ≡ true → is_gap c ≡ true → (p : Position) → step p (as_state h (Keyed head q key)) c ≡ Some (as_state h (KeySpaced head q key))
named_gap h head q key c f e p = ap (λ (k : Class). in_keyed head q key h c k) (gap_class c e) ∙ if_fresh (is_fresh key head) (at h (KeySpaced head q key)) f

named_calm : (h : Held) (head : HeadView) (q : Position) (key : List ℕ) (rest : List ℕ) (s : State) → (key_long : length key ≤ 4096) → level_long h ≡ false → is_fresh key head ≡ true → ((t : Position) → Calm t (as_state h (Signed head q key)) rest s) → (gap : List ℕ) (p : Position) → list_all is_gap gap ≡ true
    → Calm p (as_state h (Keyed head q key)) (gap ++ (61 ∷ rest)) s
named_calm h head q key rest s k l f w [] p e = one_calm p (as_state h (Keyed head q key)) (as_state h (Signed head q key)) 61 rest s (equals_on h head q key p f) refl l (w (after p 61))
named_calm h head q key rest s k l f w (c ∷ gap) p e =
    let a = both (is_gap c) (list_all is_gap gap) e in
    one_calm p (as_state h (Keyed head q key)) (as_state h (KeySpaced head q key)) c (gap ++ (61 ∷ rest)) s (named_gap h head q key c f a.0 p) refl l
    (key_spaced_calm h head q key rest s l w gap (after p c) a.1)

abbrev key_text : Quote → List ℕ → List ℕ → List ℕ → List ℕ
key_text u name before behind = name ++ (before ++ (61 ∷ (behind ++ (quote_code u ∷ []))))

key_calm : (h : Held) (head : HeadView) (u : Quote) (name before behind : List ℕ) (p : Position) → level_long h ≡ false → begins_name name ≡ true → list_all is_named name ≡ true → length name ≤ 4096 → list_all is_gap before ≡ true → list_all is_gap behind ≡ true → is_fresh name head ≡ true
    → Calm p (as_state h (Spaced head)) (key_text u name before behind) (quoting h head p name u [] 0)
key_calm h head u [] before behind p l b n s x y f = absurd (let g : false ≡ true = b in cc)
key_calm h head u (c ∷ cs) before behind p l b n s x y f =
    let a = both (is_named c) (list_all is_named cs) n in
    let one : 1 ≤ 4096 = omega arith in
    one_calm p (as_state h (Spaced head)) (as_state h (Keyed head p (c ∷ []))) c (cs ++ (before ++ (61 ∷ (behind ++ (quote_code u ∷ []))))) (quoting h head p (c ∷ cs) u [] 0)
    (first_on h head p c (class_of c) b) refl (short_or 1 (level_long h) one l)
    (keyed_calm h head p l cs (c ∷ []) (c ∷ cs) (before ++ (61 ∷ (behind ++ (quote_code u ∷ [])))) (quoting h head p (c ∷ cs) u [] 0) (after p c) refl a.1 s
    (λ t1. named_calm h head p (c ∷ cs) (behind ++ (quote_code u ∷ [])) (quoting h head p (c ∷ cs) u [] 0) s l f (λ t2. signed_calm h head p (c ∷ cs) u l behind t2 y) before t1 x))

key_split : (q : ℕ) (name before after behind : List ℕ) → name ++ (before ++ (61 ∷ (after ++ (q ∷ behind)))) ≡ (name ++ (before ++ (61 ∷ (after ++ (q ∷ []))))) ++ behind
key_split q name before after behind =
    ap (λ y. name ++ (before ++ (61 ∷ y))) (sym (append_assoc after (q ∷ []) behind))
    ∙ (ap (λ y. name ++ y) (sym (append_assoc before (61 ∷ (after ++ (q ∷ []))) behind)) ∙ sym (append_assoc name (before ++ (61 ∷ (after ++ (q ∷ [])))) behind))

key_flat : (u : Quote) (name before after : List ℕ) → list_all is_named name ≡ true → list_all is_gap before ≡ true → list_all is_gap after ≡ true → list_all is_flat (key_text u name before after) ≡ true
key_flat u name before after n x y = all_flat is_named named_flat name (before ++ (61 ∷ (after ++ (quote_code u ∷ [])))) n
    (flat_append before (61 ∷ (after ++ (quote_code u ∷ []))) (gap_all_flat before x) (flat_append after (quote_code u ∷ []) (gap_all_flat after y) (ap (λ b. b && true) (quote_flat u))))

pub key_took : (h : Held) (head : HeadView) (rest name behind : List ℕ) (u : Quote) (p : Position)
    → level_long h ≡ false → IsKey rest name u behind → is_fresh name head ≡ true
    → TookFlat rest p (as_state h (Spaced head)) behind (quoting h head p name u [] 0)
key_took h head rest name behind u p l k f = record {
  part = key_text u name k.before k.after;
  split = k.written ∙ key_split (quote_code u) name k.before k.after behind;
  flat = key_flat u name k.before k.after k.named k.white_before k.white_after;
  calm = key_calm h head u name k.before k.after p l k.begins k.named k.short k.white_before k.white_after f;
}

pub key_taken : (r : Reader) (a b : Head) (x : Valued) (rest name behind key : List ℕ) (u : Quote) (p : Position)
    → r.mode ≡ v.Spaced a → r.mode ≡ v.Spaced b → IsKey rest name u behind → key ≡ name
    → is_fresh key (head_view a) ≡ true → x.head ≡ b → x.position ≡ p → string_bytes x.key.text ≡ key → x.quote ≡ u
    → string_bytes x.value.text ≡ [] → x.value.count ≡ 0 → TookFlat rest p (view r) behind (in_mode r (v.Quoted x))
key_taken r a b x rest name behind key u p e g k j n xh xp xk xq xv xn =
    let h = held_view r.held in
    let fresh : is_fresh name (head_view b) ≡ true = ap (λ y. is_fresh y (head_view b)) (sym j)
    ∙ (same_fresh r key r.mode a b e g ∙ n) in
    let whole : quoting h (head_view b) p name u [] 0 ≡ in_mode r (v.Quoted x) =
    λ i. as_state h (Quoted (head_view (sym xh i)) (sym xp i) (sym (xk ∙ j) i) (sym xq i) (sym xv i) (sym xn i)) in
    subst (λ (y : State). TookFlat rest p (view r) behind y) whole
    (subst (λ (y : ModeHere). TookFlat rest p (in_mode r y) behind (quoting h (head_view b) p name u [] 0)) (sym g)
    (key_took h (head_view b) rest name behind u p (level_short r) k fresh))

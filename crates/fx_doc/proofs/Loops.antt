-- A loop over the characters of a text: what has come so far, the character at hand, and the rest; and what a turn gives.
-- Below the answers on the reader's loop.
use Rattle.std.proofs.Common.{◌≡◌, ℕ, ◌+◌, ◌<◌, ◌≤◌, ◌^◌, true, List, [], ◌∷◌, ◌++◌, suc, map, length, take, drop, get_or, drop-cons, sym, ◌∙◌, ap, subst, arith, Some, None, Result, Ok, Err}
use Rattle.std.proofs.lemmas.List.{take-append-drop, map-id}
use Rattle.std.specs.Result.{IsErrAnd}
use lib.Dec.{leb}
use Rattle.fx_base.specs.Positions.{start, after_all}
use Rattle.fx_doc_grammar.specs.Grammar.{Spells}
use Rattle.fx_doc_grammar.specs.Machine.{Mode, Naming, initial, run, answer, stack_depth}
use Rattle.fx_doc_grammar.specs.Beginnings.{IsWithinLimits, IsStopped}
use Rattle.fx_doc_grammar.proofs.Advance.{sound}
use Rattle.fx_doc_grammar.proofs.Roots.{line_bound, column_bound}
use Rattle.fx_doc_grammar.proofs.Turns.{run_more, limits_more, stopped_here, stopped_end, too_long, too_deep}
use Rattle.fx_base.specs.declared.positions.Position.{Position}
use Rattle.fx_doc_runs.specs.Views.{view, reading, IsDeepMode}
use Rattle.fx_doc.specs.Reads.{IsNext, IsRead}
use Rattle.fx_doc_runs.specs.declared.document.Document.{Document}
use Rattle.fx_doc_runs.specs.declared.document.DocError.{DocError}
use Rattle.fx_doc_runs.specs.declared.document.DocError.TheVariants.{NotUtf8, Markup, Depth, Long, Memory}
use Rattle.fx_doc_runs.specs.declared.modes.Reader.{Reader}
use Rattle.fx_doc_runs.proofs.Shorts.{never_long}

pub record IsTurn (all said : List ℕ) (c : ℕ) : Type 0 where
  pub more : List ℕ
  pub split : all ≡ said ++ (c ∷ more)

pub turn : (all said : List ℕ) (c : ℕ) → map (λ (x : ℕ). x) said ≡ take (length said) all → length said < length all → c ≡ get_or all (length said) c → IsTurn all said c
turn all said c e h g = record {
  more = drop (suc (length said)) all;
  split = sym (take-append-drop (length said) all) ∙ (ap (λ y. y ++ drop (length said) all) (sym e ∙ map-id said) ∙ ap (λ y. said ++ y) (drop-cons all (length said) c h ∙ ap (λ y. y ∷ drop (suc (length said)) all) (sym g)));
}

pub line_small : (all said : List ℕ) (p : Position) (n : ℕ) → length said < length all → length all ≤ n → n ≤ 4194304 → p ≡ after_all start said → p.line < 2 ^ 31
line_small all said p n h k m q =
    let b : (after_all start said).line ≤ 1 + length said = line_bound start said in
    let e : p.line ≡ (after_all start said).line = ap (λ (y : Position). y.line) q in
    omega arith

pub column_small : (all said : List ℕ) (p : Position) (n : ℕ) → length said < length all → length all ≤ n → n ≤ 4194304 → p ≡ after_all start said → p.column < 2 ^ 31
column_small all said p n h k m q =
    let b : (after_all start said).column ≤ 1 + length said = column_bound start said in
    let e : p.column ≡ (after_all start said).column = ap (λ (y : Position). y.column) q in
    omega arith

-- a turn that goes on

pub goes_on : (said : List ℕ) (c : ℕ) (p : Position) (r r' : Reader) → run start (Some initial) said ≡ Some (view r) → p ≡ after_all start said → IsNext (view r) p c r' (Ok tt) → run start (Some initial) (said ++ (c ∷ [])) ≡ Some (view r')
goes_on said c p r r' h q x = run_more said c p (view r) (view r') h q x.0

pub within_on : (said : List ℕ) (c : ℕ) (p : Position) (r r' : Reader) → run start (Some initial) said ≡ Some (view r) → p ≡ after_all start said → IsWithinLimits said → IsNext (view r) p c r' (Ok tt) → IsWithinLimits (said ++ (c ∷ []))
within_on said c p r r' h q w x = limits_more said c p (view r) (view r') h q x.0 w x.1 (never_long r')

-- a turn that stops

deep_naming : (m : Mode) (p : Position) → IsDeepMode m p → (n : List ℕ) × (m ≡ Naming p n)
deep_naming (Naming q n) p e = (n, ap (λ y. Naming y n) e)
deep_naming m p e = absurd e

deep_leb : (n : ℕ) → 128 ≤ n → leb 128 n ≡ true
deep_leb n h = grind arith

pub stops : (all said : List ℕ) (c : ℕ) (p : Position) (r r' : Reader) (e : DocError) → IsTurn all said c → run start (Some initial) said ≡ Some (view r) → p ≡ after_all start said → IsWithinLimits said → IsNext (view r) p c r' (Err e) → IsRead all (Err e)
stops all said c p r r' (Markup position) t h q w x = stopped_here all said c t.more p position (view r) t.split h q w x.0 x.1
stops all said c p r r' (Long position) t h q w x = too_long all said c t.more p position (view r) x.0 t.split h q w x.1 (never_long r) x.2 x.3
stops all said c p r r' (Depth position) t h q w x =
    let n = deep_naming x.0.mode position x.2.0 in
    too_deep all said c t.more p position (view r) x.0 n.0 t.split h q w x.1 n.1 (deep_leb (stack_depth x.0.held.stack) x.2.1)
stops all said c p r r' (NotUtf8 n) t h q w x = absurd x
stops all said c p r r' Memory t h q w x = tt

-- the end of the text

pub ends_read : (all said : List ℕ) (r : Reader) (d : Document) → said ≡ all → run start (Some initial) said ≡ Some (view r) → IsWithinLimits said → answer (view r) ≡ Some (reading d) → IsRead all (Ok d)
ends_read all said r d e h w a = (subst (λ y. Spells y (reading d)) e (sound said (view r) (reading d) h a), subst IsWithinLimits e w)

pub ends_stopped : (all said : List ℕ) (p : Position) (r : Reader) → said ≡ all → run start (Some initial) said ≡ Some (view r) → p ≡ after_all start said → IsWithinLimits said → answer (view r) ≡ None → IsStopped all p
ends_stopped all said p r e h q w a = stopped_end all said p (view r) (sym e) h q w a

-- an error that is passed on
pub passed : (all : List ℕ) (r : Result Document DocError) (e : DocError) → IsErrAnd r (λ y. y ≡ e) → IsRead all (Err e) → IsRead all r
passed all (Ok d) e h x = absurd h
passed all (Err y) e h x = subst (λ (z : DocError). IsRead all (Err z)) (sym h) x

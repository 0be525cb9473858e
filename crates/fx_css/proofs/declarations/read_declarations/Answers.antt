-- Each turn takes the first piece of the rest.
-- What is past a limit in it is the first of all that is.
use Rattle.std.proofs.Common.{◌≡◌, ℕ, ◌+◌, ◌-◌, ◌<◌, List, take, drop, map, length, ◌++◌, sym, ◌∙◌, ap, subst, arith}
use Rattle.std.proofs.lemmas.Bool.{eqb-true, eqb-false}
use Rattle.std.proofs.lemmas.List.{length-drop}
use Rattle.std.specs.List.{position_or_len}
use Rattle.fx_css.specs.declared.parts.Numbered.{Numbered}
use Rattle.fx_css.specs.declared.declarations.Piece.{Piece}
use Rattle.fx_css.specs.Numbered.{shown}
use Rattle.fx_css.specs.Pieces.{ends_declaration, piece_of, kept, warned, kept_in, past_declarations}
use Rattle.fx_css.specs.Sheets.{IsStop}
use Rattle.fx_css.proofs.NumberedLemmas.{length_shown}
use Rattle.fx_css.proofs.Bodies.{first_piece, so_far_more, so_far_stops, so_far_kept, so_far_dropped, so_far_within, passed}
use Rattle.fx_css.proofs.declarations.read_declarations.Goals as goal

first_is : (p : Piece) (ms front : List Numbered) (n : ℕ) → p ≡ piece_of front → front ≡ take n ms → n ≡ position_or_len ends_declaration ms → p ≡ first_piece ms
first_is p ms front n e f g = e ∙ ap piece_of (f ∙ ap (λ y. take y ms) g)

smaller : (rest left : List Numbered) (n : ℕ) → (length rest ≡ 0 → ⊥) → left ≡ drop (n + 1) rest → length left < length rest
smaller rest left n h e =
    let f : length left ≡ length rest - (n + 1) = ap length e ∙ length-drop (n + 1) rest in
    grind (arith, h, f)

pub overflow_add-end : goal.overflow_add-end
overflow_add-end c = omega (arith, length_shown c.loop-rest.rest, c.loop-rest.rest.within, c.declaration_end-end.ensures.within)

pub loop-rest-smaller : goal.loop-rest-smaller
loop-rest-smaller c = smaller (shown c.loop-rest.rest) (shown c.behind-rest.result) c.declaration_end-end.result (eqb-false (length (shown c.loop-rest.rest)) 0 (sym c.loop-rest-test.ensures)) c.behind-rest.ensures

pub loop-rest-preserved : goal.loop-rest-preserved
loop-rest-preserved c =
    let rest : List Numbered = shown c.loop-rest.rest in
    let e : c.in_ok-piece.piece ≡ first_piece rest = first_is c.in_ok-piece.piece rest (shown c.front.result) c.declaration_end-end.result c.in_ok-piece.ensures c.front.ensures c.declaration_end-end.ensures.at in
    so_far_more c.loop-rest.declarations.items c.settle.new.declarations.items c.loop-rest.warnings.items c.settle.new.warnings.items c.args.warnings.now.items rest (shown c.behind-rest.result) (shown c.args.body) c.loop-rest.invariant
    (c.behind-rest.ensures ∙ ap (λ y. drop (y + 1) rest) c.declaration_end-end.ensures.at)
    (c.in_ok-settle.ensures.kept ∙ ap (λ y. c.loop-rest.declarations.items ++ map (λ k. k.declaration) (kept y)) e)
    (c.in_ok-settle.ensures.dropped ∙ ap (λ y. c.loop-rest.warnings.items ++ warned y) e)
    (sym (ap (λ y. past_declarations (length c.loop-rest.declarations.items) (kept y)) e) ∙ c.in_ok-settle.ensures.within)

pub returns-in_err-settle-clause-limit : goal.returns-in_err-settle-clause-limit
returns-in_err-settle-clause-limit c =
    let rest : List Numbered = shown c.loop-rest.rest in
    let e : c.in_ok-piece.piece ≡ first_piece rest = first_is c.in_ok-piece.piece rest (shown c.front.result) c.declaration_end-end.result c.in_ok-piece.ensures c.front.ensures c.declaration_end-end.ensures.at in
    passed (past_declarations 0 (kept_in (shown c.args.body))) c.from_residual-in_err-settle.result c.in_err-settle.field-0.0 c.from_residual-in_err-settle.ensures.1
    (so_far_stops c.loop-rest.declarations.items c.loop-rest.warnings.items c.args.warnings.now.items rest (shown c.args.body) c.in_err-settle.field-0.0 c.loop-rest.invariant
    (subst (λ y. IsStop (past_declarations (length c.loop-rest.declarations.items) (kept y)) c.in_err-settle.field-0.0) e c.in_err-settle.ensures.limit))

pub returns-clause-kept : goal.returns-clause-kept
returns-clause-kept c = so_far_kept c.loop-rest.declarations.items c.loop-rest.warnings.items c.args.warnings.now.items (shown c.loop-rest.rest) (shown c.args.body) c.loop-rest.invariant (eqb-true (length (shown c.loop-rest.rest)) 0 (sym c.loop-rest-test.ensures))

pub returns-clause-dropped : goal.returns-clause-dropped
returns-clause-dropped c = so_far_dropped c.loop-rest.declarations.items c.loop-rest.warnings.items c.args.warnings.now.items (shown c.loop-rest.rest) (shown c.args.body) c.loop-rest.invariant (eqb-true (length (shown c.loop-rest.rest)) 0 (sym c.loop-rest-test.ensures))

pub returns-clause-within : goal.returns-clause-within
returns-clause-within c = so_far_within c.loop-rest.declarations.items c.loop-rest.warnings.items c.args.warnings.now.items (shown c.loop-rest.rest) (shown c.args.body) c.loop-rest.invariant (eqb-true (length (shown c.loop-rest.rest)) 0 (sym c.loop-rest-test.ensures))

-- Lines that are taken and written one by one.
use Rattle.std.proofs.Common.{◌≡◌, ℕ, true, false, List, [], ◌∷◌, ◌++◌, Option, Some, None, Result, Ok, Err, length, take, append_assoc, append-nil, ap, sym, ◌∙◌, subst, refl}
use Rattle.std.specs.Result.{IsErrAnd}
use Rattle.fx_frame_text.specs.declared.forms.Form.{Form}
use Rattle.fx_plain_runs.specs.Runs.{AreCounted, IsPut, IsPutPart, IsPutWhole, IsWritten, written_of}
use Rattle.fx_plain_runs.specs.declared.manners.Manner.{Manner}
use Rattle.fx_plain_runs.proofs.CountingLemmas.{summed}
use Rattle.fx_plain_frames.specs.Games.{Game}
use Rattle.fx_plain_frames.specs.Playing.{IsPlayed, IsTold, no_line}
use Rattle.fx_plain_frames.proofs.PlayedLemmas.{IsUnderway, done_played, line_done, not_begun}
use Rattle.fx_plain_steps.specs.Told.{Told, Totals, summary_line, texts_of}
use Rattle.fx_plain_steps.proofs.ToldLemmas.{texts-snoc}
use Rattle.fx_port.specs.Pieces.{GrewByPrefix, Writes, grown}
use Rattle.fx_script_commands.specs.Requests.{Numbered}

-- some lines were played and written, and these are left
pub record IsPlaying (form : Form) (warnings : List ℕ) (first now : Game) (all left : List Numbered)
    (old new : Option (List ℕ)) : Type 0 where
  pub done : List Numbered
  pub tolds : List Told
  pub joins : done ++ left ≡ all
  pub under : IsUnderway form first now done tolds
  pub written : new ≡ grown old (warnings ++ texts_of tolds)

grown-nil : (old : Option (List ℕ)) → old ≡ grown old []
grown-nil None = refl
grown-nil (Some held) = ap Some (sym (append-nil held))

pub grown-grown : (old : Option (List ℕ)) (a b : List ℕ) → grown (grown old a) b ≡ grown old (a ++ b)
grown-grown None a b = refl
grown-grown (Some held) a b = ap Some (append_assoc held a b)

pub no_texts : (warnings : List ℕ) → warnings ≡ warnings ++ texts_of []
unfolding texts_of
no_texts warnings = sym (append-nil warnings)

-- what was dropped of sheets is told
unfoldable pub begins : (form : Form) (warnings : List ℕ) (first : Game) (all : List Numbered) (old new : Option (List ℕ))
    → new ≡ grown old warnings → IsPlaying form warnings first first all all old new
begins form warnings first all old new told = record {
  done = [];
  tolds = [];
  joins = refl;
  under = not_begun form first;
  written = told ∙ ap (grown old) (no_texts warnings);
}

-- one text more
pub longer : (warnings : List ℕ) (tolds : List Told) (told : Told)
    → (warnings ++ texts_of tolds) ++ told.text ≡ warnings ++ texts_of (tolds ++ told ∷ [])
longer warnings tolds told =
    append_assoc warnings (texts_of tolds) told.text ∙ ap (λ l. warnings ++ l) (sym (texts-snoc tolds told))

unfoldable pub goes_on : {form : Form} {warnings : List ℕ} {first now next : Game} {all left : List Numbered}
    {old mid new : Option (List ℕ)} (line : Numbered) (told : Told)
    → IsPlaying form warnings first now all (line ∷ left) old mid → (cost : ℕ) → IsTold form line now next told cost
    → new ≡ grown mid told.text → IsPlaying form warnings first next all left old new
goes_on {form} {warnings} {first} {now} {next} {all} {left} {old} {mid} {new} line told so cost is wrote = record {
  done = so.done ++ line ∷ [];
  tolds = so.tolds ++ told ∷ [];
  joins = append_assoc so.done (line ∷ []) left ∙ so.joins;
  under = line_done so.done so.tolds line told so.under cost is;
  written = wrote ∙ (ap (λ w. grown w told.text) so.written ∙ (grown-grown old (warnings ++ texts_of so.tolds) told.text
      ∙ ap (grown old) (longer warnings so.tolds told)));
}

take-front : {A : Type 0} (xs ys : List A) → take (length xs) (xs ++ ys) ≡ xs
take-front [] ys = refl
take-front (x ∷ xs) ys = ap (λ l. x ∷ l) (take-front xs ys)

-- so many lines were played
so_many : {form : Form} {warnings : List ℕ} {first now : Game} {all left : List Numbered} {old new : Option (List ℕ)}
    (so : IsPlaying form warnings first now all left old new) → IsPlayed form first (take (length so.done) all) so.tolds
so_many {form} {warnings} {first} {now} {all} {left} so =
    subst (λ (ls : List Numbered). IsPlayed form first (take (length so.done) ls) so.tolds) so.joins
    (subst (λ (ls : List Numbered). IsPlayed form first ls so.tolds) (sym (take-front so.done left)) (done_played so.done so.tolds so.under))

long : (manner : Manner) (warnings : List ℕ) (tolds : List Told) → manner.summary ≡ false
    → warnings ++ texts_of tolds ≡ written_of manner warnings tolds
long manner warnings tolds h = rw h refl

pub ends : {manner : Manner} {warnings : List ℕ} {first now : Game} {all : List Numbered} {old new : Option (List ℕ)}
    → manner.summary ≡ false → IsPlaying manner.form warnings first now all [] old new
    → IsPutWhole manner warnings first all old new
ends {manner} {warnings} {first} {now} {all} {old} h so = record {
  bytes = warnings ++ texts_of so.tolds;
  written = record {
    tolds = so.tolds;
    played = subst (λ (ls : List Numbered). IsPlayed manner.form first ls so.tolds) (sym (append-nil so.done) ∙ so.joins)
        (done_played so.done so.tolds so.under);
    written = long manner warnings so.tolds h;
  };
  told = so.written;
}

-- all of what was told so far is a part of it
whole : (old : Option (List ℕ)) (bytes : List ℕ) {new : Option (List ℕ)} → new ≡ grown old bytes → GrewByPrefix old new bytes
whole old bytes e = record { front = bytes; prefix = ([], append-nil bytes); told = e }

pub stops_before : {manner : Manner} {warnings : List ℕ} {first now : Game} {all left : List Numbered}
    {old new : Option (List ℕ)} → manner.summary ≡ false → IsPlaying manner.form warnings first now all left old new
    → IsPutPart manner warnings first all old new
stops_before {manner} {warnings} {first} {now} {all} {left} {old} h so = record {
  count = length so.done;
  bytes = warnings ++ texts_of so.tolds;
  written = record { tolds = so.tolds; played = so_many so; written = long manner warnings so.tolds h };
  part = whole old (warnings ++ texts_of so.tolds) so.written;
}

behind : (old : Option (List ℕ)) (front text : List ℕ) {mid new : Option (List ℕ)} → mid ≡ grown old front
    → GrewByPrefix mid new text → GrewByPrefix old new (front ++ text)
behind old front text e part = record {
  front = front ++ part.front;
  prefix = (part.prefix.0, append_assoc front part.front part.prefix.0 ∙ ap (λ l. front ++ l) part.prefix.1);
  told = part.told ∙ (ap (λ w. grown w part.front) e ∙ grown-grown old front part.front);
}

pub stops_in : {manner : Manner} {warnings : List ℕ} {first now : Game} (next : Game) {all left : List Numbered}
    {old mid new : Option (List ℕ)} (line : Numbered) (told : Told) → manner.summary ≡ false
    → IsPlaying manner.form warnings first now all (line ∷ left) old mid → (cost : ℕ)
    → IsTold manner.form line now next told cost
    → GrewByPrefix mid new told.text → IsPutPart manner warnings first all old new
stops_in {manner} {warnings} {first} {now} next {all} {left} {old} {mid} {new} line told h so cost is part =
    let tolds = so.tolds ++ told ∷ [] in
    let done = so.done ++ line ∷ [] in
    let played = done_played (so.done ++ line ∷ []) (so.tolds ++ told ∷ []) (line_done so.done so.tolds line told so.under cost is) in
    let joins : done ++ left ≡ all = append_assoc so.done (line ∷ []) left ∙ so.joins in
    record {
      count = length done;
      bytes = warnings ++ texts_of tolds;
      written = record {
        tolds = tolds;
        played = subst (λ (ls : List Numbered). IsPlayed manner.form first (take (length done) ls) tolds) joins
            (subst (λ (ls : List Numbered). IsPlayed manner.form first ls tolds) (sym (take-front done left)) played);
        written = long manner warnings tolds h;
      };
      part = subst (λ (bytes : List ℕ). GrewByPrefix old new bytes) (longer warnings so.tolds told)
          (behind old (warnings ++ texts_of so.tolds) told.text so.written part);
    }

take-none : {A : Type 0} (xs : List A) → take 0 xs ≡ []
take-none [] = refl
take-none (x ∷ xs) = refl

take-all : {A : Type 0} (xs : List A) → take (length xs) xs ≡ xs
take-all [] = refl
take-all (x ∷ xs) = ap (λ l. x ∷ l) (take-all xs)

-- of no line there is something to write
of_no_line : (manner : Manner) (warnings : List ℕ) (first : Game) (all : List Numbered)
    → IsWritten manner warnings first (take 0 all) (written_of manner warnings [])
of_no_line manner warnings first all = record {
  tolds = [];
  played = subst (λ (ls : List Numbered). IsPlayed manner.form first ls []) (sym (take-none all)) (no_line first);
  written = refl;
}

-- nothing was written
pub not_begun_yet : (manner : Manner) (warnings : List ℕ) (first : Game) (all : List Numbered) (old : Option (List ℕ))
    → IsPutPart manner warnings first all old old
not_begun_yet manner warnings first all old = record {
  count = 0;
  bytes = written_of manner warnings [];
  written = of_no_line manner warnings first all;
  part = record { front = []; prefix = (written_of manner warnings [], refl); told = grown-nil old };
}

-- a part of what was dropped of sheets was written
pub stops_in_warnings : (manner : Manner) (warnings : List ℕ) (first : Game) (all : List Numbered)
    {old new : Option (List ℕ)} → manner.summary ≡ false → GrewByPrefix old new warnings
    → IsPutPart manner warnings first all old new
stops_in_warnings manner warnings first all {old} {new} h part = record {
  count = 0;
  bytes = written_of manner warnings [];
  written = of_no_line manner warnings first all;
  part = subst (λ (bytes : List ℕ). GrewByPrefix old new bytes) (no_texts warnings ∙ long manner warnings [] h) part;
}

pub put_at_err : {E : Type 0} {manner : Manner} {warnings : List ℕ} {first : Game} {all : List Numbered}
    {old new : Option (List ℕ)} (Q : E → Type 0) (result : Result (Unit {0}) E) → IsErrAnd result Q
    → IsPutPart manner warnings first all old new → IsPut manner warnings first all old new result
put_at_err Q (Ok done) is part = absurd is
put_at_err Q (Err error) is part = record { ok = tt; err = part }

pub put_at_ok : {E : Type 0} {manner : Manner} {warnings : List ℕ} {first : Game} {all : List Numbered}
    {old new : Option (List ℕ)} → IsPutWhole manner warnings first all old new
    → IsPut {E = E} manner warnings first all old new (Ok tt)
put_at_ok whole = record { ok = whole; err = tt }

-- the totals of all lines are written, or a part of them
pub totals_put : {E : Type 0} {manner : Manner} {warnings : List ℕ} {first : Game} {all : List Numbered}
    {old new : Option (List ℕ)} {totals : Totals} (result : Result (Unit {0}) E) → manner.summary ≡ true
    → AreCounted manner.form first all totals → Writes old new result (summary_line totals)
    → IsPut manner warnings first all old new result
totals_put {E} {manner} {warnings} {first} {all} {old} {new} {totals} (Ok done) h so writes = record {
  ok = record { bytes = summary_line totals; written = summed warnings h so; told = writes.ok };
  err = tt;
}
totals_put {E} {manner} {warnings} {first} {all} {old} {new} {totals} (Err error) h so writes = record {
  ok = tt;
  err = record {
    count = length all;
    bytes = summary_line totals;
    written = subst (λ (ls : List Numbered). IsWritten manner warnings first ls (summary_line totals)) (sym (take-all all))
        (summed warnings h so);
    part = writes.err;
  };
}

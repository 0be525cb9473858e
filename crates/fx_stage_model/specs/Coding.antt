-- Lines of actions as lists, so that two can be told apart by their lists: a line is one item, and an action's lines
-- stand between its own item and an item that closes it.
use Rattle.std.proofs.Common.{inl, inr, refl, ap, ◌∙◌}
use Rattle.std.specs.Prelude.{◌≡◌, ◌⊎◌, ℕ, List, [], ◌∷◌}
use Rattle.std.specs.Coded.{Coded, code_by, coded_ℕ, coded_list, coded×, coded⊎}
use Rattle.fx_expr.specs.Tree.{Tree}
use Rattle.fx_graph_model.specs.Formulas.{coded_tree}
use Rattle.fx_script_commands.specs.Requests as script
use Rattle.fx_script_lines.specs.contracts.instructions.Instruction.{the_row as instruction_row}
use Rattle.fx_script_lines.specs.declared.instructions.Instruction.{Instruction}

abbrev pub Path : Type 0
Path = List (List ℕ)

-- what a binding binds: its paths and its expression
abbrev pub Bound : Type 0
Bound = Path × (List Path × Tree)

-- a line of words, a binding, the name of an action, or a bad line; each by its number, or what closes an action
abbrev pub Item : Type 0
Item = (ℕ × (Instruction ⊎ (Bound ⊎ (List ℕ ⊎ ℕ)))) ⊎ ℕ

abbrev pub numbered : ℕ → script.Request → script.Numbered
numbered number request = record { number = number; request = request }

abbrev pub expression_of : List Path → Tree → script.Expression
expression_of paths meaning = record { paths = paths; meaning = meaning }

abbrev mutual
  -- a line, or lines, in front of what stands behind them
  pub listed : ℕ → script.Request → List Item → List Item
  listed n (script.asks instruction) rest = inl (n, inl instruction) ∷ rest
  listed n (script.binds path e) rest = inl (n, inr (inl (path, (e.paths, e.meaning)))) ∷ rest
  listed n (script.defines name lines) rest = inl (n, inr (inr (inl name))) ∷ listed_all lines (inr 0 ∷ rest)
  listed n script.bad rest = inl (n, inr (inr (inr 0))) ∷ rest

  pub listed_all : script.Requests → List Item → List Item
  listed_all script.no_more rest = rest
  listed_all (script.more n request lines) rest = listed n request (listed_all lines rest)

-- the lines, of which the last stands first, in front of these
abbrev pub turned : List script.Numbered → script.Requests → script.Requests
turned [] lines = lines
turned (l ∷ ls) lines = turned ls (script.more l.number l.request lines)

-- these lines on top of others, the last one first
abbrev pub onto : script.Requests → List script.Numbered → List script.Numbered
onto script.no_more lines = lines
onto (script.more n request rest) lines = onto rest (numbered n request ∷ lines)

-- an action that is open, and the lines in front of it
abbrev pub Frame : Type 0
Frame = (ℕ × List ℕ) × List script.Numbered

-- the innermost action closed
abbrev pub closed : List script.Numbered → List Frame → List script.Numbered × List Frame
closed lines [] = (lines, [])
closed lines (f ∷ frames) = (numbered f.0.0 (script.defines f.0.1 (turned lines script.no_more)) ∷ f.1, frames)

-- the lines that items stand for, the last one first
abbrev pub read : List Item → List script.Numbered → List Frame → List script.Numbered
read [] lines frames = lines
read (inl (n, inl instruction) ∷ items) lines frames = read items (numbered n (script.asks instruction) ∷ lines) frames
read (inl (n, inr (inl b)) ∷ items) lines frames =
    read items (numbered n (script.binds b.0 (expression_of b.1.0 b.1.1)) ∷ lines) frames
read (inl (n, inr (inr (inl name))) ∷ items) lines frames = read items [] (((n, name), lines) ∷ frames)
read (inl (n, inr (inr (inr none))) ∷ items) lines frames = read items (numbered n script.bad ∷ lines) frames
read (inr close ∷ items) lines frames = read items (closed lines frames).0 (closed lines frames).1

-- one after the other
abbrev pub joined : script.Requests → script.Requests → script.Requests
joined script.no_more others = others
joined (script.more n request lines) others = script.more n request (joined lines others)

joined_none : (lines : script.Requests) → joined lines script.no_more ≡ lines
joined_none script.no_more = refl
joined_none (script.more n request lines) = ap (script.more n request) (joined_none lines)

turned_onto : (lines : script.Requests) (under : List script.Numbered) (others : script.Requests)
    → turned (onto lines under) others ≡ turned under (joined lines others)
turned_onto script.no_more under others = refl
turned_onto (script.more n request lines) under others = turned_onto lines (numbered n request ∷ under) others

mutual
  pub read_one : (n : ℕ) (request : script.Request) (items : List Item) (lines : List script.Numbered)
      (frames : List Frame)
      → read (listed n request items) lines frames ≡ read items (numbered n request ∷ lines) frames
  read_one n (script.asks instruction) items lines frames = refl
  read_one n (script.binds path e) items lines frames = refl
  read_one n (script.defines name inside) items lines frames =
      read_all inside (inr 0 ∷ items) [] (((n, name), lines) ∷ frames)
      ∙ ap (λ (rs : script.Requests). read items (numbered n (script.defines name rs) ∷ lines) frames)
      (turned_onto inside [] script.no_more ∙ joined_none inside)
  read_one n script.bad items lines frames = refl

  pub read_all : (inside : script.Requests) (items : List Item) (lines : List script.Numbered) (frames : List Frame)
      → read (listed_all inside items) lines frames ≡ read items (onto inside lines) frames
  read_all script.no_more items lines frames = refl
  read_all (script.more n request inside) items lines frames =
      read_one n request (listed_all inside items) lines frames
      ∙ read_all inside items (numbered n request ∷ lines) frames

abbrev pub first : List script.Numbered → script.Numbered
first [] = numbered 0 script.bad
first (l ∷ ls) = l

abbrev pub coded_path : Coded Path
coded_path = coded_list (coded_list coded_ℕ)

abbrev pub coded_item : Coded Item
coded_item =
    coded⊎
    (coded× coded_ℕ
    (coded⊎ instruction_row.coded
    (coded⊎ (coded× coded_path (coded× (coded_list coded_path) coded_tree)) (coded⊎ (coded_list coded_ℕ) coded_ℕ))))
    coded_ℕ

abbrev pub coded_numbered : Coded script.Numbered
coded_numbered =
    code_by (List Item) (coded_list coded_item) (λ l. listed l.number l.request []) (λ items. first (read items [] []))
    (λ l. ap first (read_one l.number l.request [] [] []))

-- A printed text is read as the module, but for places.
use Rattle.std.proofs.Common.{◌≡◌, ◌⊎◌, inl, inr, refl, sym, ap, ap₂, ◌∙◌, subst, ℕ, ◌<◌, ◌+◌, arith, false, List, [], ◌∷◌, ◌++◌, length}
use Rattle.std.specs.Prelude.{Option, Some, None, All, fold}
use Rattle.std.specs.List.{flat_map, AllByRecursion as Every}
use Rattle.std.proofs.lemmas.List.{append-nil, length-map}
use Rattle.ir_core.specs.declared.module.Module as modules
use Rattle.ir_core.specs.Places.{unplaced_func, unplaced, AreSameButForPlaces}
use Rattle.ir_lexer.specs.Places.{first_place}
use Rattle.ir_grammar.specs.declared.parts.Entity as read_entities
use Rattle.ir_grammar.specs.Pieces.{Piece, pieces}
use Rattle.ir_grammar.specs.Names.{Names, no_names}
use Rattle.ir_grammar.specs.Tokens.{Limits, is_past}
use Rattle.ir_grammar.specs.Entities.{added, no_entities, module_of, text_form}
use Rattle.ir_grammar.specs.Reading.{ReadsPieces}
use Rattle.ir_printer.specs.declared.words.Word.{Word}
use Rattle.ir_printer.specs.declared.words.Word.TheVariants as words
use Rattle.ir_printer.specs.declared.demands.Known.{Known}
use Rattle.ir_printer.specs.Layout.{Tables, tables}
use Rattle.ir_printer.specs.Order.{known_beyond, no_demand, nothing_known, turns, count, order}
use Rattle.ir_printer.specs.Printed.{Entity, TargetLine, DefinedType, Variable, Definition, Declared, Left, placed, target_line, printed}
use Rattle.ir_printer.specs.Reprints.{Front}
use Rattle.ir_printer.proofs.Positions.{IsIndexed, none_indexed, all_names}
use Rattle.ir_printer.proofs.PrintedForms.{known, PrintsEntities, RereadsEntities}
use Rattle.ir_printer.proofs.EntityOrder.{type_in, global_in, func_in, declared_in, left_of, same_left, demands_left, IsPart, Fitted, known_after, Ordered, in_order}
use Rattle.ir_printer.proofs.SoundPieces.{are_bytes, pieces_sound}
use Rattle.ir_printer.proofs.TextsRead.{HasRead, text_read, parts_of, IsPrintable, AreReprinted, read_indexed, read_reprinted, layout_after, triple_after, assembled, module_read}
use Rattle.ir_printer.proofs.TextsReread.{PiecesAre, page_pieces, Reread, reread}
use Rattle.ir_printer.proofs.PrintedUnplaced.{printed_unplaced}
use Rattle.ir_printer.proofs.DemandsReady.{max_zero}

-- ---- parts alone

-- entities without the lines of the layout and of the triple
abbrev alone : List Entity → List Entity
alone [] = []
alone (TargetLine w said ∷ es) = alone es
alone (DefinedType d ∷ es) = DefinedType d ∷ alone es
alone (Variable g ∷ es) = Variable g ∷ alone es
alone (Definition f ∷ es) = Definition f ∷ alone es
alone (Declared d ∷ es) = Declared d ∷ alone es

alone_parts : (es : List Entity) → Every IsPart (alone es)
alone_parts [] = tt
alone_parts (TargetLine w said ∷ es) = alone_parts es
alone_parts (DefinedType d ∷ es) = (tt, alone_parts es)
alone_parts (Variable g ∷ es) = (tt, alone_parts es)
alone_parts (Definition f ∷ es) = (tt, alone_parts es)
alone_parts (Declared d ∷ es) = (tt, alone_parts es)

every_alone : (P : Entity → Type 0) (es : List Entity) → Every P es → Every P (alone es)
every_alone P [] h = tt
every_alone P (TargetLine w said ∷ es) h = every_alone P es h.1
every_alone P (DefinedType d ∷ es) h = (h.0, every_alone P es h.1)
every_alone P (Variable g ∷ es) h = (h.0, every_alone P es h.1)
every_alone P (Definition f ∷ es) h = (h.0, every_alone P es h.1)
every_alone P (Declared d ∷ es) h = (h.0, every_alone P es h.1)

-- each list of parts is the same
lists_alone : {A : Type 0} (own : Entity → List A) → ((w : Word) (said : List ℕ) → own (TargetLine w said) ≡ []) → (es : List Entity) → flat_map own (alone es) ≡ flat_map own es
lists_alone own h [] = refl
lists_alone own h (TargetLine w said ∷ es) = lists_alone own h es ∙ ap (λ xs. xs ++ flat_map own es) (sym (h w said))
lists_alone own h (DefinedType d ∷ es) = ap (λ xs. own (DefinedType d) ++ xs) (lists_alone own h es)
lists_alone own h (Variable g ∷ es) = ap (λ xs. own (Variable g) ++ xs) (lists_alone own h es)
lists_alone own h (Definition f ∷ es) = ap (λ xs. own (Definition f) ++ xs) (lists_alone own h es)
lists_alone own h (Declared d ∷ es) = ap (λ xs. own (Declared d) ++ xs) (lists_alone own h es)

abbrev known_of : ℕ → ℕ → Known
known_of symbols types = record { symbols = symbols; types = types }

-- a line without names
no_more_known : (k : Known) → known_beyond k no_demand ≡ k
no_more_known k = ap₂ known_of (max_zero k.symbols) (max_zero k.types)

fitted_alone : (symbols : List (List ℕ)) (es : List Entity) (k : Known) → Fitted symbols k es → Fitted symbols k (alone es)
fitted_alone symbols [] k h = tt
fitted_alone symbols (TargetLine w said ∷ es) k h = fitted_alone symbols es k (subst (λ (l : Known). Fitted symbols l es) (no_more_known k) h.1)
fitted_alone symbols (DefinedType d ∷ es) k h = (h.0, fitted_alone symbols es _ h.1)
fitted_alone symbols (Variable g ∷ es) k h = (h.0, fitted_alone symbols es _ h.1)
fitted_alone symbols (Definition f ∷ es) k h = (h.0, fitted_alone symbols es _ h.1)
fitted_alone symbols (Declared d ∷ es) k h = (h.0, fitted_alone symbols es _ h.1)

known_alone : (symbols : List (List ℕ)) (es : List Entity) (k : Known) → known_after symbols k (alone es) ≡ known_after symbols k es
known_alone symbols [] k = refl
known_alone symbols (TargetLine w said ∷ es) k = known_alone symbols es k ∙ ap (λ (l : Known). known_after symbols l es) (sym (no_more_known k))
known_alone symbols (DefinedType d ∷ es) k = known_alone symbols es _
known_alone symbols (Variable g ∷ es) k = known_alone symbols es _
known_alone symbols (Definition f ∷ es) k = known_alone symbols es _
known_alone symbols (Declared d ∷ es) k = known_alone symbols es _

-- ---- the lines of the layout and of the triple

layout_step : (o : Option (List ℕ)) (e : Entity) → (layout_after o e ≡ o) ⊎ ((said : List ℕ) × (e ≡ TargetLine words.DataLayout said) × (layout_after o e ≡ Some said))
layout_step o (TargetLine words.DataLayout said) = inr (said, refl, refl)
layout_step o e = inl refl

triple_step : (o : Option (List ℕ)) (e : Entity) → (triple_after o e ≡ o) ⊎ ((said : List ℕ) × (e ≡ TargetLine words.Triple said) × (triple_after o e ≡ Some said))
triple_step o (TargetLine words.Triple said) = inr (said, refl, refl)
triple_step o e = inl refl

-- the last line of a kind
module _ (step : Option (List ℕ) → Entity → Option (List ℕ)) (w : Word) (by : (o : Option (List ℕ)) (e : Entity) → (step o e ≡ o) ⊎ ((said : List ℕ) × (e ≡ TargetLine w said) × (step o e ≡ Some said))) where
  some_same : {x y : List ℕ} → Some x ≡ Some y → x ≡ y
  some_same e = cc

  -- it was one of the entities
  was_there : (P : Entity → Type 0) (es : List Entity) (o : Option (List ℕ)) → Every P es → ((said : List ℕ) → o ≡ Some said → P (TargetLine w said)) → (said : List ℕ) → fold step o es ≡ Some said → P (TargetLine w said)
  was_there P [] o h first said e = first said e
  was_there P (x ∷ es) o h first said e = was_there P es (step o x) h.1 (λ y g. at y g (by o x)) said e
    where
      at : (y : List ℕ) → step o x ≡ Some y → (step o x ≡ o) ⊎ ((said : List ℕ) × (x ≡ TargetLine w said) × (step o x ≡ Some said)) → P (TargetLine w y)
      at y g (inl z) = first y (sym z ∙ g)
      at y g (inr z) = subst P (z.1 ∙ ap (TargetLine w) (some_same (sym z.2 ∙ g))) h.0

  -- parts are no such line
  past_parts : (es : List Entity) (o : Option (List ℕ)) → Every IsPart es → fold step o es ≡ o
  past_parts [] o h = refl
  past_parts (x ∷ es) o h = past_parts es (step o x) h.1 ∙ at x h.0 (by o x)
    where
      no_line : (e : Entity) (said : List ℕ) → IsPart e → e ≡ TargetLine w said → ⊥
      no_line e said p g = subst IsPart g p

      at : (e : Entity) → IsPart e → (step o e ≡ o) ⊎ ((said : List ℕ) × (e ≡ TargetLine w said) × (step o e ≡ Some said)) → step o e ≡ o
      at e p (inl z) = z
      at e p (inr z) = absurd (no_line e z.0 p z.1)

-- ---- the order of the text

-- the lines before the parts
module _ (symbols : List (List ℕ)) (P : Entity → Type 0) (layout triple : Option (List ℕ)) (es : List Entity) where
  abbrev lines_first : List Entity
  lines_first = target_line words.DataLayout layout ++ (target_line words.Triple triple ++ es)

  -- one line first
  every_line : (w : Word) (o : Option (List ℕ)) (xs : List Entity) → ((said : List ℕ) → o ≡ Some said → P (TargetLine w said)) → Every P xs → Every P (target_line w o ++ xs)
  every_line w None xs h k = k
  every_line w (Some said) xs h k = (h said refl, k)

  fitted_line : (w : Word) (o : Option (List ℕ)) (xs : List Entity) → Fitted symbols nothing_known xs → Fitted symbols nothing_known (target_line w o ++ xs)
  fitted_line w None xs h = h
  fitted_line w (Some said) xs h = (refl, h)

  known_line : (w : Word) (o : Option (List ℕ)) (xs : List Entity) → known_after symbols nothing_known (target_line w o ++ xs) ≡ known_after symbols nothing_known xs
  known_line w None xs = refl
  known_line w (Some said) xs = refl

  parts_line : (w : Word) (o : Option (List ℕ)) (xs : List Entity) → left_of (target_line w o ++ xs) ≡ left_of xs
  parts_line w None xs = refl
  parts_line w (Some said) xs = refl

  layout_line : Every IsPart es → fold layout_after None lines_first ≡ layout
  layout_line h = at layout triple
    where
      at : (l t : Option (List ℕ)) → fold layout_after None (target_line words.DataLayout l ++ (target_line words.Triple t ++ es)) ≡ l
      at None None = past_parts layout_after words.DataLayout layout_step es None h
      at None (Some y) = past_parts layout_after words.DataLayout layout_step es None h
      at (Some x) None = past_parts layout_after words.DataLayout layout_step es (Some x) h
      at (Some x) (Some y) = past_parts layout_after words.DataLayout layout_step es (Some x) h

  triple_line : Every IsPart es → fold triple_after None lines_first ≡ triple
  triple_line h = at layout triple
    where
      at : (l t : Option (List ℕ)) → fold triple_after None (target_line words.DataLayout l ++ (target_line words.Triple t ++ es)) ≡ t
      at None None = past_parts triple_after words.Triple triple_step es None h
      at None (Some y) = past_parts triple_after words.Triple triple_step es (Some y) h
      at (Some x) None = past_parts triple_after words.Triple triple_step es None h
      at (Some x) (Some y) = past_parts triple_after words.Triple triple_step es (Some y) h

-- ---- the module

-- a module by its names, its parts and its lines
abbrev made : List (List ℕ) → List (List ℕ) → Left → Option (List ℕ) → Option (List ℕ) → modules.Module
made symbols types l layout triple = record { symbols = symbols; types = record { names = types; defs = l.types }; globals = l.globals; funcs = l.funcs; declared = l.declared; layout = layout; triple = triple }

same_made : {s s2 ty ty2 : List (List ℕ)} {l l2 : Left} {lo lo2 tr tr2 : Option (List ℕ)} → s ≡ s2 → ty ≡ ty2 → l ≡ l2 → lo ≡ lo2 → tr ≡ tr2 → made s ty l lo tr ≡ made s2 ty2 l2 lo2 tr2
same_made {s = s} {s2 = s2} {ty = ty} {ty2 = ty2} {l = l} {l2 = l2} {lo = lo} {lo2 = lo2} {tr = tr} {tr2 = tr2} a b c d e =
    ap (λ (x : List (List ℕ)). made x ty l lo tr) a ∙ ap (λ (x : List (List ℕ)). made s2 x l lo tr) b ∙ ap (λ (x : Left). made s2 ty2 x lo tr) c ∙ ap (λ (x : Option (List ℕ)). made s2 ty2 l2 x tr) d ∙ ap (λ (x : Option (List ℕ)). made s2 ty2 l2 lo2 x) e

left_alone : (es : List Entity) → left_of (alone es) ≡ left_of es
left_alone es = same_left (lists_alone type_in (λ w said. refl) es) (lists_alone global_in (λ w said. refl) es) (lists_alone func_in (λ w said. refl) es) (lists_alone declared_in (λ w said. refl) es)

-- the parts in the order of the printer
abbrev in_turn : List (List ℕ) → Left → List Entity
in_turn symbols l = placed (turns (count (demands_left symbols l)) nothing_known (demands_left symbols l)) l

-- ---- the whole

-- what is said of entities that were read, and of those that are printed
module _ (n : Tables) (l : Limits) (es : List Entity) (t : Names) (tabled : (n.symbols ≡ t.symbols) × (n.types ≡ t.types)) (read : AreReprinted n l no_names es t) (again : RereadsEntities l) (room : is_past l.functions (length (flat_map func_in es)) ≡ false) where
  abbrev P : Entity → Type 0
  P e = IsPrintable n l e

  abbrev layout : Option (List ℕ)
  layout = fold layout_after None es

  abbrev triple : Option (List ℕ)
  triple = fold triple_after None es

  abbrev parts : List Entity
  parts = in_turn n.symbols (left_of es)

  abbrev all : List Entity
  all = lines_first n.symbols P layout triple parts

  ordered : Ordered n.symbols P nothing_known (alone es) parts
  ordered = subst (λ (l : Left). Ordered n.symbols P nothing_known (alone es) (in_turn n.symbols l)) (left_alone es)
      (in_order n.symbols P nothing_known (alone es) (alone_parts es) (every_alone P es read.each) (fitted_alone n.symbols es nothing_known read.fitted))

  none_said : (w : Word) (said : List ℕ) → None ≡ Some said → P (TargetLine w said)
  none_said w said e = absurd cc

  every : Every P all
  every =
      every_line n.symbols P layout triple parts words.DataLayout layout (target_line words.Triple triple ++ parts) (was_there layout_after words.DataLayout layout_step P es None read.each (none_said words.DataLayout))
      (every_line n.symbols P layout triple parts words.Triple triple parts (was_there triple_after words.Triple triple_step P es None read.each (none_said words.Triple)) ordered.every)

  fitted : Fitted n.symbols nothing_known all
  fitted =
      fitted_line n.symbols P layout triple parts words.DataLayout layout (target_line words.Triple triple ++ parts)
      (fitted_line n.symbols P layout triple parts words.Triple triple parts ordered.fitted)

  all_known : known_after n.symbols nothing_known all ≡ known t
  all_known =
      known_line n.symbols P layout triple parts words.DataLayout layout (target_line words.Triple triple ++ parts)
      ∙ known_line n.symbols P layout triple parts words.Triple triple parts ∙ ordered.known ∙ known_alone n.symbols es nothing_known ∙ read.counted

  all_parts : left_of all ≡ left_of es
  all_parts =
      parts_line n.symbols P layout triple parts words.DataLayout layout (target_line words.Triple triple ++ parts)
      ∙ parts_line n.symbols P layout triple parts words.Triple triple parts ∙ ordered.parts ∙ left_alone es

  room_for_all : is_past l.functions (length no_entities.definitions + length (flat_map func_in all)) ≡ false
  room_for_all =
      let as_many : length (flat_map func_in all) ≡ length (flat_map func_in es) = ap (λ (x : Left). length x.funcs) all_parts in
      let none_before : length no_entities.definitions + length (flat_map func_in all) ≡ length (flat_map func_in es) = omega (arith, as_many) in
      ap (λ (j : ℕ). is_past l.functions j) none_before ∙ room

  none_yet : Front false n no_names
  none_yet = ((n.symbols, refl), (n.types, refl), λ e. absurd cc)

  -- the printed text has a module, which is the same but for places
  text_back : (us : List Piece) → PiecesAre n us all → (m2 : modules.Module) × ReadsPieces l us m2 × (unplaced m2 ≡ assembled es t)
  unfolding text_form
  text_back us p = (module_of (fold added no_entities q.entities) q.after, (q.after, (q.count, q.rounds)), same)
    where
      q : Reread n l no_entities no_names us all
      q = reread n l again all no_entities no_names us room_for_all every fitted none_yet p

      many : known q.after ≡ known t
      many = q.counted ∙ all_known

      symbols : q.after.symbols ≡ t.symbols
      symbols = all_names q.after.symbols q.front.0.0 n.symbols q.front.0.1 (ap (λ (l : Known). l.symbols) many ∙ ap length (sym tabled.0)) ∙ tabled.0

      types : q.after.types ≡ t.types
      types = all_names q.after.types q.front.1.0 n.types q.front.1.1 (ap (λ (l : Known). l.types) many ∙ ap length (sym tabled.1)) ∙ tabled.1

      same : unplaced (module_of (fold added no_entities q.entities) q.after) ≡ assembled es t
      same =
          module_read q.entities q.after ∙ ap (λ (groups : List (List ℕ)). assembled (parts_of groups q.entities) q.after) q.groups ∙ ap (λ (xs : List Entity). assembled xs q.after) q.same
          ∙ same_made symbols types all_parts (layout_line n.symbols P layout triple parts ordered.part) (triple_line n.symbols P layout triple parts ordered.part)

module _ (prints : (n : Tables) (l : Limits) (noinline : List (List ℕ)) → IsIndexed n.symbols → IsIndexed n.types → PrintsEntities n l noinline) (again : (l : Limits) → RereadsEntities l) where
  -- of entities and names that were read
  entities_back : (l : Limits) (xs : List read_entities.Entity) (noinline : List (List ℕ)) (t : Names) → is_past l.functions (length (flat_map func_in (parts_of noinline xs))) ≡ false → HasRead l no_names xs t →
      (m2 : modules.Module) × ReadsPieces l (pieces (printed (assembled (parts_of noinline xs) t))) m2 × (unplaced m2 ≡ assembled (parts_of noinline xs) t)
  unfolding printed order
  entities_back l xs noinline t room r =
      let none = tables [] [] [] in
      let indexed = read_indexed none l noinline (prints none l noinline none_indexed none_indexed) xs no_names t r (none_indexed, none_indexed, none_indexed) in
      let n = tables t.symbols t.types [] in
      let es = parts_of noinline xs in
      let read = read_reprinted n l noinline (prints n l noinline indexed.0 indexed.1) xs no_names t r (([], append-nil t.symbols), ([], append-nil t.types), λ e. absurd cc) in
      let text = printed (assembled es t) in
      text_back n l es t (refl, refl) read (again l) room (pieces text)
      (page_pieces n l (all n l es t (refl, refl) read (again l) room) None first_place (every n l es t (refl, refl) read (again l) room))

  -- a text that was read within these limits: the text of its module is read within them as the module, but for places
  pub printed_back : (l : Limits) (m : modules.Module) (bytes : List ℕ) (read : modules.Module) → All (λ b. b < 256) bytes → ReadsPieces l (pieces bytes) read → AreSameButForPlaces read m → is_past l.functions (length m.funcs) ≡ false →
      (m2 : modules.Module) × ReadsPieces l (pieces (printed m)) m2 × AreSameButForPlaces m2 m
  printed_back l m bytes read small h same room =
      let x = text_read l (pieces bytes) read h.0 h.1 (pieces_sound bytes (are_bytes bytes small)) in
      let d = fold added no_entities x.0 in
      let es = parts_of d.noinline x.0 in
      let whole : unplaced m ≡ assembled es h.0 = sym same ∙ ap unplaced x.2 ∙ module_read x.0 h.0 in
      let many : length m.funcs ≡ length (flat_map func_in es) = sym (length-map m.funcs unplaced_func) ∙ ap (λ (y : modules.Module). length y.funcs) whole in
      let b = entities_back l x.0 d.noinline h.0 (subst (λ (k : ℕ). is_past l.functions k ≡ false) many room) x.1 in
      (b.0, subst (λ (bs : List ℕ). ReadsPieces l (pieces bs) b.0) (ap printed (sym whole) ∙ printed_unplaced m) b.1, b.2 ∙ sym whole)

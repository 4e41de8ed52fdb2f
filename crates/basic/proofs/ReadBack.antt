-- A written text within the reader's limits reads back as what was written, and no other limit can meet it: the statements of Statements, proved.
use Rattle.std.specs.Prelude.{ℕ, suc, ◌+◌, ◌*◌, ◌≤◌, ◌≡◌, refl, Bool, true, false, List, [], ◌∷◌, ◌++◌, map, ◌⊎◌, leb, length}
use Rattle.std.proofs.Common.{ap, ◌∙◌, sym, subst, append_assoc, inl, inr, length-append, arith, le-leb, leb-true}
use Rattle.std.proofs.Math.Path.{ap₂}
use Rattle.std.proofs.lemmas.List.{map-append, length-map}
use Rattle.std.proofs.Math.Option.{Option, none, some}
use Rattle.node.specs.Limits.{max_nodes}
use Rattle.node.specs.Ltl.{Formula}
use Rattle.node.specs.Postorder.{size, SignalsBelow}
use Rattle.node.proofs.PostorderLaws.{signals-more}
use Rattle.node.proofs.WrittenLaws.{count_most}
use Rattle.node.specs.Result.{Done, Refused, ◌>>=◌}
use Rattle.node.proofs.ResultLaws.{bind_done, bind_to, bind_refused, not_done, guard-pass, guard-stop}
use Rattle.language.specs.Limits.{max_bytes, max_tokens, max_levels, max_signals}
use Rattle.language.specs.Tokens.{Name, Token, tokens}
use Rattle.language.specs.Tree.{Model, Spec}
use Rattle.language.specs.Grammar.{Tokens}
use Rattle.language.specs.Sections.{spec_of}
use Rattle.language.specs.Places.{refuse_at, too_deep}
use Rattle.language.specs.Parsing.{no_token, too_many_tokens, well_formed, parsed}
use Rattle.language.specs.DeclaredNames.{Declarations}
use Rattle.language.specs.Numbering.{in_order, signal_list}
use Rattle.language.specs.Numbered.{flag_of}
use Rattle.language.specs.Reading.{NumberedFormula, spec_expansion, text_expansion}
use Rattle.language.proofs.Laws.Basics.Lists.{All, all_left, all_right, all_both}
use Rattle.language.proofs.Laws.Basics.NoPlace.{refuse_at-done}
use Rattle.language.proofs.Laws.Grammar.TokenLaws.{Ends, tokens-end}
use Rattle.language.proofs.Laws.Grammar.Parses.{WellFormed}
use Rattle.language.proofs.Laws.Meaning.NumberedLaws.{PortPlaced}
use Rattle.language.proofs.Laws.Meaning.TextPorts.{ports_placed}
use Rattle.language.proofs.Laws.Meaning.Acceptance.{text-signals, list-limited}
use Rattle.language.proofs.Laws.Meaning.SignalOrder.{list-append}
use Rattle.basic.specs.Spelling.{names_of, side_of, spelled}
use Rattle.basic.specs.Basic.{basic_text}
use Rattle.basic.specs.Writing.{fault_from, written}
use Rattle.basic.specs.Statements.{Kept, guaranteeing, ReadsBack}
use Rattle.basic.proofs.Lexed.{sign, token_at, laid, ending, Alone, laid-length}
use Rattle.basic.proofs.Lexemes.{basic_lexemes, NamesAlone, basic_alone, basic_length}
use Rattle.basic.proofs.ParsedText.{word_for, places_for, spec_for, spec_read, text-tokens, end_at, last_at}
use Rattle.basic.proofs.Names.{name-alone}
use Rattle.basic.proofs.Source.{Listed, source-listed, Short, AllUnlike, faultless}
use Rattle.basic.proofs.WellFormed.{formed}
use Rattle.basic.proofs.Expanded.{declaredFor, declared-for, expansion-for, names-back, flags_back}
use Rattle.basic.proofs.Levels.{depth, shallow_for}
use Rattle.basic.proofs.Guaranteed.{guaranteed-nodes, guaranteed-size}
use Rattle.basic.proofs.Passing.{no_wrong, few_tokens, count-at-most, parsed_by}

-- what stands where a text was written
record WrittenOf (text s : List ℕ) : Type 0 where
  spec : Spec
  source : NumberedFormula
  meaning : text_expansion text ≡ Done source
  fair : fault_from [] 0 (names_of text source.signals) ≡ none
  bytes : basic_text spec.target text source ≡ s

written_of : {text s : List ℕ} → written text ≡ Done s → WrittenOf text s
unfolding written text_expansion
written_of {text} {s} e =
    let a = bind_done (parsed text) _ e in
    let b = bind_done (spec_expansion a.0) _ a.2 in
    let r = refuse_at-done 22 (fault_from [] 0 (names_of text b.0.signals)) _ b.2 in
    let same = r.1 in
    record { spec = a.0; source = b.0; meaning = bind_to (parsed text) a.0 spec_expansion a.1 ∙ b.1; fair = r.0; bytes = cc }

module _ {text s : List ℕ} (w : WrittenOf text s) where
  abbrev m : Model
  m = w.spec.target

  abbrev list : List ℕ
  list = w.source.signals

  abbrev inputs : List (List ℕ)
  inputs = side_of false text list

  abbrev outputs : List (List ℕ)
  outputs = side_of true text list

  abbrev names : List (List ℕ)
  names = names_of text list

  abbrev f : Formula
  f = w.source.formula

  listed : Listed text list
  listed = source-listed w.meaning

  fine : Short names × AllUnlike names
  fine = faultless names w.fair

  count : length names ≡ length list
  count = length-map list (spelled text)

  below : SignalsBelow (length names) f
  below = subst (λ (n : ℕ). SignalsBelow n f) (sym count) (text-signals text w.source w.meaning)

  few : length names ≤ max_signals
  few = omega (arith, count, list-limited text w.source w.meaning)

  -- its tokens
  names-alone : NamesAlone names
  names-alone = all_both name-alone names listed.named fine.0

  sides_alone : NamesAlone (inputs ++ outputs)
  sides_alone = subst NamesAlone (sym listed.sides) names-alone

  alone : All Alone (basic_lexemes m inputs outputs names f)
  alone =
      let P : List ℕ → Type 0 = λ n. Alone (Name, n) in
      basic_alone m inputs outputs names f (all_left P inputs outputs sides_alone) (all_right P inputs outputs sides_alone) names-alone below

  abbrev end : ℕ
  end = ending 0 (basic_lexemes m inputs outputs names f)

  abbrev laid_out : Tokens
  laid_out = laid 0 (basic_lexemes m inputs outputs names f) ++ last_at end

  tokens_are : tokens s ≡ laid_out
  tokens_are = ap tokens (sym w.bytes) ∙ text-tokens m inputs outputs names f alone

  -- 2 finds no place, and the grammar reads them
  lexes : no_token (tokens s) ≡ none
  lexes =
      let us = laid 0 (basic_lexemes m inputs outputs names f) in
      let apart : tokens s ≡ (us ++ (token_at end (sign "}") ∷ [])) ++ (end_at (suc end) ∷ []) = tokens_are ∙ sym (append_assoc us (token_at end (sign "}") ∷ []) (end_at (suc end) ∷ [])) in
      ap no_token apart ∙ no_wrong (length s) (us ++ (token_at end (sign "}") ∷ [])) (end_at (suc end)) (subst (Ends (length s)) apart (tokens-end s)) refl

  reads_as : spec_of (tokens s) ≡ Done (spec_for m inputs outputs names f)
  reads_as = ap spec_of tokens_are ∙ spec_read m inputs outputs names f end

  -- 6 to 10 find no place; 15 and 16 cannot
  abbrev tree : Spec
  tree = spec_for m inputs outputs names f

  abbrev word : Token
  word = word_for m inputs outputs names f

  abbrev places : ℕ × ℕ × ℕ
  places = places_for m inputs outputs names f

  well_formed_lem : too_deep tree ≡ none → WellFormed tree
  well_formed_lem shallow = formed m inputs outputs names f word places listed.sides below fine.1 (omega (arith, few)) shallow

  -- 28 tokens, 2 a signal, 3 a node, and the text's end
  tokens-count : length (tokens s) ≡ 29 + 2 * length list + 3 * size f
  tokens-count =
      let xs = basic_lexemes m inputs outputs names f in
      let sides = ap length listed.sides in
      omega (arith, ap length tokens_are, length-append (laid 0 xs) (last_at end), laid-length 0 xs, basic_length m inputs outputs names f, length-append inputs outputs, count)

  size_small : too_many_tokens (tokens s) ≡ none → size f + 12 ≤ max_nodes
  size_small counted = let all = count-at-most max_tokens (tokens s) counted in omega (arith, tokens-count)

  -- what it gives
  abbrev declared : Declarations
  declared = declaredFor m inputs outputs names f word places listed.sides below fine.1

  abbrev back : NumberedFormula
  back = record { formula = guaranteeing f; signals = signal_list (in_order declared) }

  module _ (k : Kept s) where
    parses-as : parsed s ≡ Done tree
    parses-as = parsed_by s tree k.short lexes k.counted reads_as (well_formed_lem (k.shallow tree reads_as))

    means : text_expansion s ≡ Done back
    unfolding text_expansion
    means =
        bind_to (parsed s) tree spec_expansion parses-as
        ∙ expansion-for m inputs outputs names f word places listed.sides below fine.1 few (omega (arith, guaranteed-size f, count_most (guaranteeing f), size_small k.counted))

    -- its signals, entry by entry
    placed : All (PortPlaced s) (in_order declared)
    placed = ports_placed s tree declared parses-as (declared-for m inputs outputs names f word places listed.sides below fine.1)

    abbrev ins : List ℕ
    ins = signal_list declared.inputs

    abbrev outs : List ℕ
    outs = signal_list declared.outputs

    two-sides : signal_list (in_order declared) ≡ ins ++ outs
    two-sides = list-append declared.inputs declared.outputs

    ins_placed : All (PortPlaced s) declared.inputs
    ins_placed = all_left (PortPlaced s) declared.inputs declared.outputs placed

    outs_placed : All (PortPlaced s) declared.outputs
    outs_placed = all_right (PortPlaced s) declared.inputs declared.outputs placed

    names-kept : names_of s back.signals ≡ names
    names-kept =
        ap (names_of s) two-sides ∙ map-append (spelled s) ins outs
        ∙ ap₂ ◌++◌ (names-back s false places.0 inputs ins_placed) (names-back s true places.1 outputs outs_placed) ∙ listed.sides

    directions-kept : map flag_of back.signals ≡ map flag_of list
    directions-kept =
        ap (map flag_of) two-sides ∙ map-append flag_of ins outs
        ∙ ap₂ ◌++◌ (flags_back s false places.0 inputs ins_placed) (flags_back s true places.1 outputs outs_placed) ∙ sym listed.flags

    reads-back : ReadsBack text s
    reads-back =
        let small = size_small k.counted in
        record {
          source = w.source;
          back = back;
          meaning = w.meaning;
          reads = means;
          formula = refl;
          nodes = guaranteed-nodes f (omega arith) (signals-more (omega (arith, few)) f below);
          names = names-kept;
          directions = directions-kept;
        }

-- the theorem
pub read_back : {text s : List ℕ} → written text ≡ Done s → Kept s → ReadsBack text s
read_back e k = reads-back (written_of e) k

-- refusals 1, 3 and 5 where they stand
module _ {text s : List ℕ} (w : WrittenOf text s) where
  abbrev read : Spec
  read = tree w

  too_long : leb (length s) max_bytes ≡ false → text_expansion s ≡ Refused 1 max_bytes
  unfolding text_expansion parsed
  too_long e = bind_refused (parsed s) 1 max_bytes spec_expansion (guard-stop 1 max_bytes _ e)

  many_tokens : (p : ℕ) → leb (length s) max_bytes ≡ true → too_many_tokens (tokens s) ≡ some p → text_expansion s ≡ Refused 3 p
  unfolding text_expansion parsed refuse_at
  many_tokens p short e =
      bind_refused (parsed s) 3 p spec_expansion
      (guard-pass 1 max_bytes _ short ∙ ap₂ (λ (a b : Option ℕ). refuse_at 2 a (refuse_at 3 b (spec_of (tokens s) >>= well_formed))) (lexes w) e)

  deep-tree : (p : ℕ) → leb (length s) max_bytes ≡ true → too_many_tokens (tokens s) ≡ none → too_deep read ≡ some p → text_expansion s ≡ Refused 5 p
  unfolding text_expansion parsed refuse_at
  deep-tree p short counted e =
      bind_refused (parsed s) 5 p spec_expansion
      (guard-pass 1 max_bytes _ short ∙ ap₂ (λ (a b : Option ℕ). refuse_at 2 a (refuse_at 3 b (spec_of (tokens s) >>= well_formed))) (lexes w) counted
      ∙ bind_to (spec_of (tokens s)) read well_formed (reads_as w) ∙ rw e)

  kept_by : leb (length s) max_bytes ≡ true → too_many_tokens (tokens s) ≡ none → too_deep read ≡ none → Kept s
  kept_by short counted shallow =
      record {
        short = leb-true (length s) max_bytes short;
        counted = counted;
        shallow = λ x e. let same : x ≡ read = cc (reads_as w) in ap too_deep same ∙ shallow;
      }

  -- what is written keeps to them where it is short, and the formula has few nodes and few levels
  kept_when : length s ≤ max_bytes → 28 + 2 * length (list w) + 3 * size (f w) ≤ max_tokens → 2 * depth (f w) ≤ max_levels → Kept s
  kept_when short few shallow =
      kept_by (le-leb (length s) max_bytes short) (few_tokens max_tokens (tokens s) (omega (arith, tokens-count w)))
      (shallow_for (m w) (inputs w) (outputs w) (names w) (f w) (word w) (places w) shallow)

  only_three : (n p : ℕ) → text_expansion s ≡ Refused n p → (n ≡ 1) ⊎ ((n ≡ 3) ⊎ (n ≡ 5))
  only_three n p e = by_length (leb (length s) max_bytes) refl
    where
      by-depth : (o : Option ℕ) → leb (length s) max_bytes ≡ true → too_many_tokens (tokens s) ≡ none → too_deep read ≡ o → (n ≡ 1) ⊎ ((n ≡ 3) ⊎ (n ≡ 5))
      by-depth none short counted d = absurd (not_done (sym e ∙ means w (kept_by short counted d)))
      by-depth (some q) short counted d = inr (inr (let z = deep-tree q short counted d in cc))

      by_count : (o : Option ℕ) → leb (length s) max_bytes ≡ true → too_many_tokens (tokens s) ≡ o → (n ≡ 1) ⊎ ((n ≡ 3) ⊎ (n ≡ 5))
      by_count none short c = by-depth (too_deep read) short c refl
      by_count (some q) short c = inr (inl (let z = many_tokens q short c in cc))

      by_length : (b : Bool) → leb (length s) max_bytes ≡ b → (n ≡ 1) ⊎ ((n ≡ 3) ⊎ (n ≡ 5))
      by_length false l = inl (let z = too_long l in cc)
      by_length true l = by_count (too_many_tokens (tokens s)) l refl

-- no other refusal than 1, 3 or 5 can meet a written text
pub only_limits : (text : List ℕ) {s : List ℕ} {n p : ℕ} → written text ≡ Done s → text_expansion s ≡ Refused n p → (n ≡ 1) ⊎ ((n ≡ 3) ⊎ (n ≡ 5))
only_limits text {n = n} {p = p} e r = only_three (written_of {text = text} e) n p r

-- so the text reads back where it has at most 32,768 bytes, 8,192 tokens, and a formula of at most 128 levels
pub kept_by_size : (text : List ℕ) {s : List ℕ} (c : NumberedFormula) → written text ≡ Done s → text_expansion text ≡ Done c → length s ≤ max_bytes → 28 + 2 * length c.signals + 3 * size c.formula ≤ max_tokens →
    2 * depth c.formula ≤ max_levels → Kept s
kept_by_size text {s} c e g short few shallow =
    let w = written_of {text = text} e in
    let same : c ≡ w.source = cc w.meaning in
    kept_when w short (subst (λ (d : NumberedFormula). 28 + 2 * length d.signals + 3 * size d.formula ≤ max_tokens) same few)
    (subst (λ (d : NumberedFormula). 2 * depth d.formula ≤ max_levels) same shallow)

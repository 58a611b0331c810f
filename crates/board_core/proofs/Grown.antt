-- What an account has loaded stays loaded as it loads more, and a board that agrees with the later account agrees with the earlier.
use Rattle.std.proofs.Common.{◌≡◌, ℕ, ◌+◌, ◌-◌, ◌<◌, ◌≤◌, List, [], ◌∷◌, ◌++◌, length, sym, refl, subst, arith}
use mathlib.Core.Option.{some}
use lib.ListN.{get_elem?}
use Rattle.atomic_table.proofs.Lists.{at_longer, at_last}
use Rattle.htss_defs.specs.declared.shape.Shape.{Shape}
use Rattle.board_core.specs.declared.account.Account.{Account}
use Rattle.board_core.specs.declared.entry.Noted.{Noted}
use Rattle.board_core.specs.declared.room.Row.{Row}
use Rattle.board_core.specs.declared.loads.Loads.{Loads}
use Rattle.board_core.specs.Words.{Parts, log_at}
use Rattle.board_core.specs.Blocks.{ended_at}
use Rattle.board_core.specs.FactRule.{BlocksStand}
use Rattle.board_core.specs.Loaded.{HasLogWord, HasLoaded, KnowsBlock, KnowsHead, SawMark, HasFact, HasCode, HasBlock, Grows}
use Rattle.board_core.specs.After.{after_front, after_shown, after_head, after_mark, after_fact, after_code}
use Rattle.board_core.specs.Steps.{Agrees, MayBe}

-- ---- accounts that grow

pub grows_same : (a : Account) → Grows a a
grows_same a = record { seen = omega arith; shown = λ j x there. there; heads = λ j x there. there; marks = λ j x there. there; facts = λ j x there. there; codes = λ j x there. there; fronts = λ j x there. there; epochs = λ j x there. there; announcements = λ j x there. there; states = λ j x there. there; lost = λ j x there. there; entries = λ j x there. there }

pub grows_trans : (a b c : Account) → Grows a b → Grows b c → Grows a c
grows_trans a b c f g = let first = f.seen in let second = g.seen in record {
  seen = omega arith;
  shown = λ j x there. g.shown j x (f.shown j x there);
  heads = λ j x there. g.heads j x (f.heads j x there);
  marks = λ j x there. g.marks j x (f.marks j x there);
  facts = λ j x there. g.facts j x (f.facts j x there);
  codes = λ j x there. g.codes j x (f.codes j x there);
  fronts = λ j x there. g.fronts j x (f.fronts j x there);
  epochs = λ j x there. g.epochs j x (f.epochs j x there);
  announcements = λ j x there. g.announcements j x (f.announcements j x there);
  states = λ j x there. g.states j x (f.states j x there);
  lost = λ j x there. g.lost j x (f.lost j x there);
  entries = λ j x there. g.entries j x (f.entries j x there);
}

-- entries are only added
pub entries_same : (a b : Account) → b.entries ≡ a.entries → (j : ℕ) (x : Noted) → get_elem? a.entries j ≡ some x → get_elem? b.entries j ≡ some x
entries_same a b same j x there = subst (λ (es : List Noted). get_elem? es j ≡ some x) (sym same) there

pub entries_added : (a b : Account) (es : List Noted) → b.entries ≡ a.entries ++ es → (j : ℕ) (x : Noted) → get_elem? a.entries j ≡ some x → get_elem? b.entries j ≡ some x
entries_added a b es same j x there = subst (λ (ns : List Noted). get_elem? ns j ≡ some x) (sym same) (at_longer a.entries es j x there)

-- nothing was loaded
pub grows_quiet : (a b : Account) → a.log.seen ≤ b.log.seen → b.loads ≡ a.loads → ((j : ℕ) (x : Noted) → get_elem? a.entries j ≡ some x → get_elem? b.entries j ≡ some x) → Grows a b
grows_quiet a b seen same entries = record {
  entries = entries;
  seen = seen;
  shown = λ j x there. subst (λ (l : Loads). get_elem? l.shown j ≡ some x) (sym same) there;
  heads = λ j x there. subst (λ (l : Loads). get_elem? l.heads j ≡ some x) (sym same) there;
  marks = λ j x there. subst (λ (l : Loads). get_elem? l.marks j ≡ some x) (sym same) there;
  facts = λ j x there. subst (λ (l : Loads). get_elem? l.facts j ≡ some x) (sym same) there;
  codes = λ j x there. subst (λ (l : Loads). get_elem? l.codes j ≡ some x) (sym same) there;
  fronts = λ j x there. subst (λ (l : Loads). get_elem? l.fronts j ≡ some x) (sym same) there;
  epochs = λ j x there. subst (λ (l : Loads). get_elem? l.epochs j ≡ some x) (sym same) there;
  announcements = λ j x there. subst (λ (l : Loads). get_elem? l.announcements j ≡ some x) (sym same) there;
  states = λ j x there. subst (λ (l : Loads). get_elem? l.states j ≡ some x) (sym same) there;
  lost = λ j x there. subst (λ (l : Loads). get_elem? l.lost j ≡ some x) (sym same) there;
}

pub grows_front : (a : Account) (front : ℕ) → a.log.seen ≤ front → Grows a (after_front a front)
grows_front a front later = record { seen = later; shown = λ j x there. there; heads = λ j x there. there; marks = λ j x there. there; facts = λ j x there. there; codes = λ j x there. there; fronts = λ j x there. at_longer a.loads.fronts (front ∷ []) j x there; epochs = λ j x there. there; announcements = λ j x there. there; states = λ j x there. there; lost = λ j x there. there; entries = λ j x there. there }

pub grows_shown : (a : Account) (place word : ℕ) → Grows a (after_shown a place word)
grows_shown a place word = let same = grows_same a in record {
  seen = same.seen;
  shown = λ j x there. at_longer a.loads.shown (record { place = place; word = word; front = a.log.seen } ∷ []) j x there;
  heads = same.heads;
  marks = same.marks;
  facts = same.facts;
  codes = same.codes;
  fronts = same.fronts;
  epochs = same.epochs;
  announcements = same.announcements;
  states = same.states;
  lost = same.lost;
  entries = same.entries;
}

pub grows_head : (a : Account) (place word : ℕ) → Grows a (after_head a place word)
grows_head a place word = let same = grows_same a in record {
  seen = same.seen;
  shown = same.shown;
  heads = λ j x there. at_longer a.loads.heads (record { place = place; word = word } ∷ []) j x there;
  marks = same.marks;
  facts = same.facts;
  codes = same.codes;
  fronts = same.fronts;
  epochs = same.epochs;
  announcements = same.announcements;
  states = same.states;
  lost = same.lost;
  entries = same.entries;
}

pub grows_mark : (a : Account) (place word : ℕ) → Grows a (after_mark a place word)
grows_mark a place word = let same = grows_same a in record {
  seen = same.seen;
  shown = same.shown;
  heads = same.heads;
  marks = λ j x there. at_longer a.loads.marks (record { place = place; word = word; front = a.log.seen } ∷ []) j x there;
  facts = same.facts;
  codes = same.codes;
  fronts = same.fronts;
  epochs = same.epochs;
  announcements = same.announcements;
  states = same.states;
  lost = same.lost;
  entries = same.entries;
}

pub grows_fact : (a : Account) (place word : ℕ) → Grows a (after_fact a place word)
grows_fact a place word = let same = grows_same a in record {
  seen = same.seen;
  shown = same.shown;
  heads = same.heads;
  marks = same.marks;
  facts = λ j x there. at_longer a.loads.facts (record { place = place; word = word } ∷ []) j x there;
  codes = same.codes;
  fronts = same.fronts;
  epochs = same.epochs;
  announcements = same.announcements;
  states = same.states;
  lost = same.lost;
  entries = same.entries;
}

pub grows_code : (a : Account) (row : Row) (code word : ℕ) → Grows a (after_code a row code word)
grows_code a row code word = let same = grows_same a in record {
  seen = same.seen;
  shown = same.shown;
  heads = same.heads;
  marks = same.marks;
  facts = same.facts;
  codes = λ j x there. at_longer a.loads.codes (record { row = row; code = code; word = word } ∷ []) j x there;
  fronts = same.fronts;
  epochs = same.epochs;
  announcements = same.announcements;
  states = same.states;
  lost = same.lost;
  entries = same.entries;
}

-- ---- what was loaded stays loaded

module _ (k : Shape) (a b : Account) (grown : Grows a b) where
  pub log_word_stays : (number word : ℕ) → HasLogWord k a number word → HasLogWord k b number word
  log_word_stays number word l = record { load = l.load; index = l.index; loaded = grown.shown l.index l.load l.loaded; above = l.above; inside = l.inside; place = l.place; found = l.found }

  pub loaded_stays : (number block : ℕ) → HasLoaded k a number block → HasLoaded k b number block
  loaded_stays number block l = record { word = l.word; log = log_word_stays number l.word l.log; kind = l.kind; names = l.names }

  pub known_stays : (block : ℕ) → KnowsBlock k a block → KnowsBlock k b block
  known_stays block (number, l) = (number, loaded_stays number block l)

  pub head_stays : (block head : ℕ) → KnowsHead k a block head → KnowsHead k b block head
  head_stays block head h = record { known = known_stays block h.known; load = h.load; index = h.index; loaded = grown.heads h.index h.load h.loaded; place = h.place; found = h.found }

  pub mark_stays : (block front mark : ℕ) → SawMark a block front mark → SawMark b block front mark
  mark_stays block front mark m = record { load = m.load; index = m.index; loaded = grown.marks m.index m.load m.loaded; place = m.place; seen = m.seen; found = m.found }

  pub fact_stays : (block i word : ℕ) → HasFact a block i word → HasFact b block i word
  fact_stays block i word f = record { load = f.load; index = f.index; loaded = grown.facts f.index f.load f.loaded; place = f.place; found = f.found }

  pub code_stays : (block atom code word : ℕ) → HasCode a block atom code word → HasCode b block atom code word
  code_stays block atom code word c = record { load = c.load; index = c.index; loaded = grown.codes c.index c.load c.loaded; row = c.row; code_is = c.code_is; found = c.found }

  pub block_stays : (block : ℕ) (words : ℕ → ℕ) → HasBlock k a block words → HasBlock k b block words
  block_stays block words h = record {
    head = head_stays block (words 0) h.head;
    facts = λ i past within. fact_stays block i (words i) (h.facts i past within);
    bonds = λ i past within. fact_stays block i (words i) (h.bonds i past within);
  }

  -- ---- a board that has what the later account has loaded has what the earlier has

  pub stand_before : (regions : ℕ → ℕ) (front : ℕ) → BlocksStand k regions front b.loads → BlocksStand k regions front a.loads
  stand_before regions front s = record {
    heads = λ j x there. s.heads j x (grown.heads j x there);
    facts = λ j x there. s.facts j x (grown.facts j x there);
    codes = λ j x there. s.codes j x (grown.codes j x there);
    marks = λ j x there. s.marks j x (grown.marks j x there);
  }

  pub agrees_before : (p : Parts) → Agrees k p b → Agrees k p a
  agrees_before p agrees = let less = grown.seen in let seen = agrees.seen in record { seen = omega arith; shown = λ j x there. agrees.shown j x (grown.shown j x there); blocks = stand_before p.regions p.log.front agrees.blocks; firsts = λ j l there. agrees.firsts j l (grown.codes j l there); swept = λ j x there. agrees.swept j x (grown.entries j x there) }

  pub board_before : (p : Parts) → MayBe k p b → MayBe k p a
  board_before p f = record { known = f.known; agrees = agrees_before p f.agrees }

-- ---- the load that was just made is there

pub has_log_word : (k : Shape) (a : Account) (number word : ℕ) → 0 < number → number ≤ k.log → HasLogWord k (after_shown a (log_at k + (number - 1)) word) number word
has_log_word k a number word above inside = record {
  load = record { place = log_at k + (number - 1); word = word; front = a.log.seen };
  index = length a.loads.shown;
  loaded = at_last a.loads.shown (record { place = log_at k + (number - 1); word = word; front = a.log.seen }) (length a.loads.shown) refl;
  above = above;
  inside = inside;
  place = refl;
  found = refl;
}

pub has_head : (k : Shape) (a : Account) (block word : ℕ) → KnowsBlock k a block → KnowsHead k (after_head a block word) block word
has_head k a block word known = record {
  known = known_stays k a (after_head a block word) (grows_head a block word) block known;
  load = record { place = block; word = word };
  index = length a.loads.heads;
  loaded = at_last a.loads.heads (record { place = block; word = word }) (length a.loads.heads) refl;
  place = refl;
  found = refl;
}

pub saw_mark : (a : Account) (block word : ℕ) → SawMark (after_mark a (block + ended_at) word) block a.log.seen word
saw_mark a block word = record {
  load = record { place = block + ended_at; word = word; front = a.log.seen };
  index = length a.loads.marks;
  loaded = at_last a.loads.marks (record { place = block + ended_at; word = word; front = a.log.seen }) (length a.loads.marks) refl;
  place = refl;
  seen = refl;
  found = refl;
}

pub has_fact : (a : Account) (block i word : ℕ) → HasFact (after_fact a (block + i) word) block i word
has_fact a block i word = record {
  load = record { place = block + i; word = word };
  index = length a.loads.facts;
  loaded = at_last a.loads.facts (record { place = block + i; word = word }) (length a.loads.facts) refl;
  place = refl;
  found = refl;
}

pub has_code : (a : Account) (row : Row) (code word : ℕ) → HasCode (after_code a row code word) row.block row.atom code word
has_code a row code word = record {
  load = record { row = row; code = code; word = word };
  index = length a.loads.codes;
  loaded = at_last a.loads.codes (record { row = row; code = code; word = word }) (length a.loads.codes) refl;
  row = (refl, refl);
  code_is = refl;
  found = refl;
}

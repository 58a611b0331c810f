-- A tree grows by one atom, and the file by one record.
use Rattle.std.proofs.Common.{◌≡◌, ℕ, suc, ◌+◌, ◌-◌, ◌<◌, ◌≤◌, List, [], ◌∷◌, ◌++◌, length, take, drop, refl, sym, ap, ◌∙◌, append_assoc, arith}
use Rattle.std.specs.Prelude.{Option, Some, None}
use Rattle.std.proofs.lemmas.List.{append-nil, take_at, take-append-drop}
use Rattle.std.specs.Io.KnownBytes.{append_known}
use Rattle.outside.specs.Written.{GrewByFront}
use Rattle.script_text.specs.declared.growing.Grown.{Grown}
use Rattle.script_text.specs.Generator.{after_tree, grown, grown_state, made_file, record_text, records_from, tree_from, tree_of, tree_state, IsMadeTo}

pub tree_start : (start : ℕ) → tree_of start ≡ tree_from 19 7 start
unfolding tree_of
tree_start start = refl

pub state_start : (start : ℕ) → after_tree start ≡ tree_state 19 7 start
unfolding after_tree
state_start start = refl

pub tree_more : (all tree new : List Grown) (i state after : ℕ) (atom : Grown) → i < 26 → all ≡ tree ++ tree_from (26 - i) i state
    → new ≡ tree ++ atom ∷ [] → atom ≡ grown i state → after ≡ grown_state i state → all ≡ new ++ tree_from (26 - (i + 1)) (i + 1) after
tree_more all tree new i state after atom less so_far more is next =
    let k : 26 - i ≡ suc (26 - (i + 1)) = omega arith in
    so_far ∙ ap (λ (n : ℕ). tree ++ tree_from n i state) k
    ∙ ap (λ (a : Grown). tree ++ a ∷ tree_from (26 - (i + 1)) (i + 1) (grown_state i state)) (sym is)
    ∙ sym (append_assoc tree (atom ∷ []) (tree_from (26 - (i + 1)) (i + 1) (grown_state i state)))
    ∙ ap (λ (t : List Grown). t ++ tree_from (26 - (i + 1)) (i + 1) (grown_state i state)) (sym more)
    ∙ ap (λ (s : ℕ). new ++ tree_from (26 - (i + 1)) (i + 1) s) (sym next)

pub state_more : (last i state after : ℕ) → i < 26 → last ≡ tree_state (26 - i) i state → after ≡ grown_state i state → last ≡ tree_state (26 - (i + 1)) (i + 1) after
state_more last i state after less so_far next =
    let k : 26 - i ≡ suc (26 - (i + 1)) = omega arith in
    so_far ∙ ap (λ (n : ℕ). tree_state n i state) k ∙ ap (λ (s : ℕ). tree_state (26 - (i + 1)) (i + 1) s) (sym next)

pub tree_end : (all tree : List Grown) (i state : ℕ) → 26 ≤ i → all ≡ tree ++ tree_from (26 - i) i state → tree ≡ all
tree_end all tree i state end so_far =
    let k : 26 - i ≡ 0 = omega arith in
    sym (so_far ∙ ap (λ (n : ℕ). tree ++ tree_from n i state) k ∙ append-nil tree)

pub state_end : (last i state : ℕ) → 26 ≤ i → last ≡ tree_state (26 - i) i state → state ≡ last
state_end last i state end so_far =
    let k : 26 - i ≡ 0 = omega arith in
    sym (so_far ∙ ap (λ (n : ℕ). tree_state n i state) k)

-- ---- the file

append_known-append : (known : Option (List ℕ)) (xs ys : List ℕ) → append_known (append_known known xs) ys ≡ append_known known (xs ++ ys)
append_known-append None xs ys = refl
append_known-append (Some zs) xs ys = ap Some (append_assoc zs xs ys)

append_known-none : (known : Option (List ℕ)) → known ≡ append_known known []
append_known-none None = refl
append_known-none (Some zs) = ap Some (sym (append-nil zs))

pub made_start : (old : Option (List ℕ)) (count seed : ℕ) → IsMadeTo old old (made_file count seed) (records_from (count - 0) 1 seed)
unfolding made_file
made_start old count seed =
    let k : count ≡ count - 0 = omega arith in
    record { done = []; written = append_known-none old; rest = ap (λ (n : ℕ). records_from n 1 seed) k }

pub made_more : (old now then : Option (List ℕ)) (all text : List ℕ) (count place state after : ℕ) → place < count
    → IsMadeTo old now all (records_from (count - place) (place + 1) state)
    → then ≡ append_known now text → text ≡ record_text (place + 1) (tree_of state) → after ≡ after_tree state
    → IsMadeTo old then all (records_from (count - (place + 1)) (place + 1 + 1) after)
made_more old now then all text count place state after less made written is next =
    let k : count - place ≡ suc (count - (place + 1)) = omega arith in
    record {
      done = made.done ++ text;
      written = written ∙ ap (λ (o : Option (List ℕ)). append_known o text) made.written ∙ append_known-append old made.done text;
      rest = made.rest ∙ ap (λ (n : ℕ). made.done ++ records_from n (place + 1) state) k
          ∙ ap (λ (t : List ℕ). made.done ++ (t ++ records_from (count - (place + 1)) (place + 1 + 1) (after_tree state))) (sym is)
          ∙ sym (append_assoc made.done text (records_from (count - (place + 1)) (place + 1 + 1) (after_tree state)))
          ∙ ap (λ (s : ℕ). (made.done ++ text) ++ records_from (count - (place + 1)) (place + 1 + 1) s) (sym next);
    }

pub made_all : (old now : Option (List ℕ)) (all : List ℕ) (count place state : ℕ) → count ≤ place
    → IsMadeTo old now all (records_from (count - place) (place + 1) state) → now ≡ append_known old all
made_all old now all count place state end made =
    let k : count - place ≡ 0 = omega arith in
    made.written ∙ ap (append_known old) (sym (made.rest ∙ ap (λ (n : ℕ). made.done ++ records_from n (place + 1) state) k ∙ append-nil made.done))

front_of : (old now : Option (List ℕ)) (all done left : List ℕ) → now ≡ append_known old done → all ≡ done ++ left → GrewByFront old now all
front_of old now all done left written rest = record {
  count = length done;
  front = written ∙ ap (append_known old) (sym (ap (take (length done)) rest ∙ take_at done left (length done) refl));
}

pub made_front : {old now : Option (List ℕ)} {all left : List ℕ} → IsMadeTo old now all left → GrewByFront old now all
made_front {old} {now} {all} {left} made = front_of old now all made.done left made.written made.rest

pub made_cut : (old now then : Option (List ℕ)) (all text : List ℕ) (count place state : ℕ) → place < count
    → IsMadeTo old now all (records_from (count - place) (place + 1) state)
    → GrewByFront now then text → text ≡ record_text (place + 1) (tree_of state) → GrewByFront old then all
made_cut old now then all text count place state less made grew is =
    let k : count - place ≡ suc (count - (place + 1)) = omega arith in
    let left = records_from (count - (place + 1)) (place + 1 + 1) (after_tree state) in
    front_of old then all (made.done ++ take grew.count text) (drop grew.count text ++ left)
    (grew.front ∙ ap (λ (o : Option (List ℕ)). append_known o (take grew.count text)) made.written ∙ append_known-append old made.done (take grew.count text))
    (made.rest ∙ ap (λ (n : ℕ). made.done ++ records_from n (place + 1) state) k
    ∙ ap (λ (t : List ℕ). made.done ++ (t ++ left)) (sym is ∙ sym (take-append-drop grew.count text))
    ∙ ap (λ (t : List ℕ). made.done ++ t) (append_assoc (take grew.count text) (drop grew.count text) left)
    ∙ sym (append_assoc made.done (take grew.count text) (drop grew.count text ++ left)))

-- what is appended to a text that was cleared is the text
pub only_text : (shown text cleared added : List ℕ) → shown ≡ text → text ≡ cleared ++ added → cleared ≡ [] → shown ≡ added
only_text shown text cleared added first second third = first ∙ second ∙ ap (λ (t : List ℕ). t ++ added) third

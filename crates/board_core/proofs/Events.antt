-- A history with one more event: what stays, and what is new.
use Rattle.std.proofs.Common.{◌≡◌, ◌≢◌, ℕ, ◌+◌, ◌-◌, ◌<◌, ◌≤◌, ◌==◌, ◌⊎◌, cond, List, [], ◌∷◌, ◌++◌, length, filter, get_or, sym, ap, subst, ◌∙◌, inl, inr, arith, append-nil, eq-eqb, ne_eqb}
use Rattle.std.specs.Prelude.{Some}
use Rattle.std.proofs.lemmas.Bool.{cases_lt}
use Rattle.std.proofs.lemmas.List.{length_push, get_or_append_left, get_or_push}
use Rattle.std.proofs.lemmas.List.Elements.{filter-append}
use Rattle.std.proofs.lemmas.Option.{slice_get_within, slice_get-get_or, get_or_from_slice_get}
use Rattle.htss_defs.specs.declared.history.Event.{Event}
use Rattle.htss_defs.specs.declared.history.Event.TheVariants.{Publish, Withdraw}
use Rattle.htss_defs.specs.Molecule.{Molecule}
use Rattle.htss_defs.specs.History.{HasEvent, Publishes, Withdraws, IsLegal}
use Rattle.board_core.specs.Histories.{IsOpen, MayFollow, caller_of, numbered, events_by}

pub event_within : (h : List Event) (number : ℕ) (x : Event) → HasEvent h number x → number ≤ length h
event_within h number x has = omega (arith, has.0, slice_get_within h (number - 1) x has.1)

pub event_more : (h : List Event) (e : Event) (number : ℕ) (x : Event) → HasEvent h number x → HasEvent (h ++ e ∷ []) number x
event_more h e number x has =
    let within : number - 1 < length h = slice_get_within h (number - 1) x has.1 in
    (has.0, slice_get-get_or (h ++ e ∷ []) (number - 1) x (omega (arith, within, length_push h e)) ∙ ap (λ (y : Event). Some y) (get_or_append_left h (e ∷ []) x (number - 1) within ∙ get_or_from_slice_get h (number - 1) x x has.1))

pub event_last : (h : List Event) (e : Event) → HasEvent (h ++ e ∷ []) (length h + 1) e
event_last h e = (omega arith, slice_get-get_or (h ++ e ∷ []) (length h + 1 - 1) e (omega (arith, length_push h e)) ∙ ap (λ (y : Event). Some y) (get_or_push h e e (length h + 1 - 1) (omega arith)))

-- the last event, or one that stood before
pub event_cases : (h : List Event) (e : Event) (number : ℕ) (x : Event) → HasEvent (h ++ e ∷ []) number x → HasEvent h number x ⊎ ((number ≡ length h + 1) × (e ≡ x))
event_cases h e number x has =
    let within : number ≤ length h + 1 = omega (arith, event_within (h ++ e ∷ []) number x has, length_push h e) in
    let is : get_or (h ++ e ∷ []) (number - 1) x ≡ x = get_or_from_slice_get (h ++ e ∷ []) (number - 1) x x has.1 in
    elim (cases_lt (number - 1) (length h)) [
      | inl before ↦ inl (has.0, slice_get-get_or h (number - 1) x before ∙ ap (λ (y : Event). Some y) (sym (get_or_append_left h (e ∷ []) x (number - 1) before) ∙ is))
      | inr last ↦ inr (omega (arith, has.0, within, last), sym (get_or_push h e x (number - 1) (omega (arith, has.0, within, last))) ∙ is)
    ]

pub publishes_more : (h : List Event) (e : Event) (number : ℕ) (name : List ℕ) (mol : Molecule) → Publishes h number name mol → Publishes (h ++ e ∷ []) number name mol
publishes_more h e number name mol p = record { caller = p.caller; event = event_more h e number (Publish p.caller name mol) p.event }

pub withdraws_more : (h : List Event) (e : Event) (at number : ℕ) → Withdraws h at number → Withdraws (h ++ e ∷ []) at number
withdraws_more h e at number w = record { caller = w.caller; event = event_more h e at (Withdraw w.caller number) w.event }

withdraws_cases : (h : List Event) (e : Event) (at number : ℕ) → Withdraws (h ++ e ∷ []) at number → Withdraws h at number ⊎ ((at ≡ length h + 1) × (caller : ℕ) × (e ≡ Withdraw caller number))
withdraws_cases h e at number w = elim (event_cases h e at (Withdraw w.caller number) w.event) [
  | inl before ↦ inl (record { caller = w.caller; event = before })
  | inr last ↦ inr (last.0, w.caller, last.1)
]

-- the event that follows, where it is a withdrawal
withdrawal_open : (h : List Event) (e : Event) (caller number : ℕ) → e ≡ Withdraw caller number → MayFollow h e → IsOpen h number
withdrawal_open h e caller number is may = subst (MayFollow h) is may

-- a legal history stays legal
pub legal_more : (h : List Event) (e : Event) → IsLegal h → MayFollow h e → IsLegal (h ++ e ∷ [])
legal_more h e legal may = record {
  earlier = λ number target w. elim (withdraws_cases h e number target w) [
    | inl before ↦ (let old = legal.earlier number target before in (old.0, old.1, old.2, publishes_more h e target old.1 old.2 old.3))
    | inr last ↦ (
        let public = (withdrawal_open h e last.1 target last.2 may).0 in
        let p : Publishes h target public.0 public.1 = public.2 in
        let within = event_within h target (Publish p.caller public.0 public.1) p.event in
        (omega (arith, last.0, within), public.0, public.1, publishes_more h e target public.0 public.1 p)
        )
  ];
  once = λ number other target first second. elim (withdraws_cases h e number target first) [
    | inl before ↦ elim (withdraws_cases h e other target second) [
      | inl also ↦ legal.once number other target before also
      | inr last ↦ absurd ((withdrawal_open h e last.1 target last.2 may).1 (number, before))
    ]
    | inr last ↦ elim (withdraws_cases h e other target second) [
      | inl also ↦ absurd ((withdrawal_open h e last.1 target last.2 may).1 (other, also))
      | inr both ↦ last.0 ∙ sym both.0
    ]
  ];
}

-- ---- the events of one loader

numbered_last : (first : ℕ) (h : List Event) (e : Event) → numbered first (h ++ e ∷ []) ≡ numbered first h ++ (first + length h, e) ∷ []
numbered_last first [] e = ap (λ n. (n, e) ∷ []) (omega arith)
numbered_last first (x ∷ xs) e = ap (λ l. (first, x) ∷ l) (numbered_last (first + 1) xs e ∙ ap (λ n. numbered (first + 1) xs ++ (n, e) ∷ []) (omega arith))

by_last : (h : List Event) (e : Event) (c : ℕ) → events_by c (h ++ e ∷ []) ≡ events_by c h ++ cond (caller_of e == c) ((1 + length h, e) ∷ []) []
by_last h e c = ap (filter (λ x. caller_of x.1 == c)) (numbered_last 1 h e) ∙ filter-append (λ x. caller_of x.1 == c) (numbered 1 h) ((1 + length h, e) ∷ [])

pub by_other : (h : List Event) (e : Event) (c : ℕ) → caller_of e ≢ c → events_by c (h ++ e ∷ []) ≡ events_by c h
by_other h e c other = by_last h e c ∙ subst (λ b. events_by c h ++ cond b ((1 + length h, e) ∷ []) [] ≡ events_by c h) (sym (ne_eqb (caller_of e) c other)) (append-nil (events_by c h))

pub by_this : (h : List Event) (e : Event) (c number : ℕ) → caller_of e ≡ c → number ≡ length h + 1 → events_by c (h ++ e ∷ []) ≡ events_by c h ++ (number, e) ∷ []
by_this h e c number same is =
    by_last h e c
    ∙ (ap (λ b. events_by c h ++ cond b ((1 + length h, e) ∷ []) []) (eq-eqb (caller_of e) c same)
    ∙ ap (λ n. events_by c h ++ (n, e) ∷ []) (omega (arith, is)))

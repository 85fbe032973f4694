-- What a turn does to the additions that are noted.
use Rattle.std.proofs.Common.{◌≡◌, ◌≢◌, ℕ, zero, suc, ◌+◌, ◌<◌, ◌≤◌, ◌==◌, Bool, true, false, ◌&&◌, cond, inl, inr, List, [], ◌∷◌, ◌++◌, All, length, get_or, Some, None, subst, refl, ap, sym, ◌∙◌, eq-eqb, arith, append-nil}
use Rattle.std.proofs.lemmas.Bool.{cases_eq, cases_lt, ne_eqb}
use Rattle.std.proofs.lemmas.List.{map-append}
use Rattle.std.proofs.lemmas.List.Elements.{All-push}
use Rattle.std.proofs.lemmas.List.Sums.{sum_by-append, sum_by-cons}
use Rattle.std.specs.Option.{option_to_list}
use Rattle.std.specs.Prelude.{option_and_then}
use Rattle.like_core.specs.declared.sight.Sight.{Sight}
use Rattle.like_core.specs.declared.view.Addition.{Addition}
use Rattle.like_core.specs.declared.page_step.PageCall.TheVariants.{Add, Read}
use Rattle.like_core.specs.declared.page_step.PageStep.{PageStep}
use Rattle.like_core.specs.declared.worker_state.WorkerState.{WorkerState}
use Rattle.like_core.specs.declared.worker_state.WorkerState.TheVariants as state
use Rattle.like_core.specs.WorkerState.{RunsSome, phase_of, seen}
use Rattle.like_core.specs.Post.{is_split_at, number_of}
use Rattle.like_core.specs.PageSteps.{additions_among, page_step, stretch_of, stretches_of}
use Rattle.like_core.proofs.Steps.{stretches-push}
use Rattle.like_tables.specs.declared.held.Held.{Held}
use Rattle.like_promises.specs.Asked.{asked}
use Rattle.like_promises.specs.declared.log.Added.{Added}
use Rattle.like_promises.specs.declared.log.Ran.{Ran}
use Rattle.like_promises.specs.declared.reply.Reply.{Reply}
use Rattle.like_promises.specs.places.Adds.{IsOfLikes, addition_of, is_add_to}
use Rattle.like_promises.specs.places.Calls.{calls_of, stretch_seen, stretch_shown}
use Rattle.like_roles.specs.worker.Follows.{adds_to, IsAsked, IsNoted, IsServed, IsUnmerged}
use Rattle.like_promises.specs.Likes.{is_like_of, likes_within}
use Rattle.like_promises.specs.Store.{Ask, like, look, refuse}
use Rattle.like_roles.specs.worker.Serve.{GivesReply, refuses, likes, looks, sliced, with_addition, counted, noted_at, ran_now}
use Rattle.like_promises.specs.Workload.{Workload, is_split_in}
use Rattle.like_roles.specs.worker.WorkerView.{WorkerView, phase_at}
use Rattle.like_roles.proofs.notes.Noted.{AddsLikes, apart, count-none, no-more, none-passes, noted-each, noted-push}
use Rattle.like_roles.proofs.notes.Calls.{calls-adds, calls-entry}
use Rattle.like_roles.proofs.counts.Tallied.{asked-served, within-none, within-push}

-- numbers are tested alike from both sides
flip : (a b : ℕ) → (a == b) ≡ (b == a)
flip a b = elim (cases_eq a b) [
  | inl same ↦ eq-eqb a b same ∙ sym (eq-eqb b a (sym same))
  | inr other ↦ ne_eqb a b other ∙ sym (ne_eqb b a (λ same. other (sym same)))
]

-- an entry that asked for a like is one of its page in its phase
adds-like : (workload : Workload) (e : Ran) (a : Ask)
    → asked workload e.submitter e.number ≡ Some a
    → AddsLikes workload e (λ phase page. cond ((e.phase == phase) && is_like_of page a) 1 0)
adds-like workload e a is xs phase page =
    within-push workload xs e a page phase is
    ∙ ap (λ (n : ℕ). likes_within workload page xs phase + n) (both (e.phase == phase) (is_like_of page a))
  where
    both : (b c : Bool) → cond {A = ℕ} b (cond c 1 0) 0 ≡ cond (b && c) 1 0
    both true c = refl
    both false c = refl

-- another is none
adds-none : (workload : Workload) (e : Ran) (a : Ask)
    → asked workload e.submitter e.number ≡ Some a
    → ((page : ℕ) → is_like_of page a ≡ false)
    → AddsLikes workload e (λ _ _. 0)
adds-none workload e a is unlike xs phase page = within-none workload xs e a page phase is (unlike page) ∙ omega arith

-- what stands of the additions, where an entry is noted
abbrev IsNotedNow : Workload → ℕ → WorkerView → List Ran → Type 0
IsNotedNow workload phase w ran =
    IsNoted workload w.post.did w.adds ran × IsUnmerged workload w.adds (state.Runs phase)

-- additions to pages that are split in their phase are of earlier phases than the one that runs
earlier : (workload : Workload) (adds : List Added) (k : ℕ)
    → IsUnmerged workload adds (state.Runs k)
    → All (λ a. is_split_in workload a.phase a.page ≡ true → a.phase < k) adds
earlier workload adds k un i d inside is =
    let a : Added = get_or adds i d in
    let low = un.0 i d inside in
    elim (cases_lt a.phase k) [
      | inl less ↦ less
      | inr past ↦
          let same : a.phase ≡ k = omega arith in
          let none = none-passes (is_add_to k a.page) adds
          (un.1 a.page (ap (λ (j : ℕ). is_split_in workload j a.page) (sym same) ∙ is)) i d inside in
          let yes : is_add_to k a.page a ≡ true = λ m. eq-eqb a.phase k same m && eq-eqb a.page a.page refl m in
          let both : true ≡ false = sym yes ∙ none in
          absurd (cc both)
    ]

-- an entry that is no accepted like, where its post has done this, and added nothing
no_like : (workload : Workload) (v : WorkerView) (e : Ran) (did : List PageStep) (a : Ask)
    → IsNoted workload v.post.did v.adds v.ran
    → All (λ a. is_split_in workload a.phase a.page ≡ true → a.phase < e.phase) v.adds
    → asked workload e.submitter e.number ≡ Some a
    → ((page : ℕ) → is_like_of page a ≡ false)
    → additions_among did ≡ additions_among v.post.did
    → stretches_of v.post.did ++ option_to_list (stretch_seen workload e) ≡ stretches_of did
    → IsNoted workload did v.adds (v.ran ++ e ∷ [])
no_like workload v e did a old before ask unlike same stretches =
    noted-push workload v.post.did did v.adds [] v.adds v.ran e (λ _ _. 0) old
    (adds-none workload e a ask unlike) (sym (append-nil v.adds))
    (no-more workload (v.ran ++ e ∷ []) v.adds (length v.ran) (λ _ _. 0) (λ _ _ _. refl) old.split)
    (λ i d inside is. (refl, before i d inside is))
    (same ∙ old.additions_are)
    (calls-entry workload v.adds v.ran e old.at
    ∙ (ap (λ xs. xs ++ option_to_list (stretch_seen workload e)) old.calls ∙ stretches))

-- one that ran no look has none among the calls
no_stretch : (workload : Workload) (e : Ran) (did : List Addition)
    → stretch_seen workload e ≡ None
    → did ++ option_to_list (stretch_seen workload e) ≡ did
no_stretch workload e did none = ap (λ o. did ++ option_to_list o) none ∙ append-nil did

-- an accepted like
one_like : (workload : Workload) (v : WorkerView) (e : Ran) (page old number user : ℕ)
    → v.notes ≡ true
    → IsNoted workload v.post.did v.adds v.ran
    → IsUnmerged workload v.adds (state.Runs (phase_at v))
    → e.phase ≡ phase_at v
    → asked workload e.submitter e.number ≡ Some (like user page)
    → is_split_in workload (phase_at v) page ≡ is_split_at v.post page
    → IsNotedNow workload (phase_at v) (counted v page old number) (v.ran ++ e ∷ [])
one_like workload v e page old number user notes was un now ask alike = by_test (is_split_at v.post page) refl
  where
    k : ℕ
    k = phase_at v

    P : WorkerView → Type 0
    P w = IsNotedNow workload k w (v.ran ++ e ∷ [])

    one : ℕ → ℕ → ℕ
    one phase q = cond ((k == phase) && (page == q)) 1 0

    no_look_ran : stretch_seen workload e ≡ None
    no_look_ran = ap (option_and_then (λ (a : Ask). stretch_shown e.phase a e.reply)) ask

    by : AddsLikes workload e one
    by xs phase q =
        adds-like workload e (like user page) ask xs phase q
        ∙ ap (λ (j : ℕ). likes_within workload q xs phase + cond ((j == phase) && (page == q)) 1 0) now

    before : All (λ a. is_split_in workload a.phase a.page ≡ true → a.phase < e.phase) v.adds
    before i d inside is = let low = earlier workload v.adds k un i d inside is in omega arith

    none_else : (phase q : ℕ) (s t : Bool) → is_split_in workload k page ≡ s → is_split_in workload phase q ≡ t → s ≢ t
        → one phase q ≡ 0
    none_else phase q s t is other differ =
        ap (λ (b : Bool). cond {A = ℕ} b 1 0) (apart workload k page phase q s t is other differ)

    in_slice : is_split_in workload k page ≡ true
        → IsNoted workload v.post.did v.adds (v.ran ++ e ∷ [])
        × IsUnmerged workload v.adds (state.Runs k)
    in_slice is = (
      noted-push workload v.post.did v.post.did v.adds [] v.adds v.ran e one was by
          (sym (append-nil v.adds))
          (no-more workload (v.ran ++ e ∷ []) v.adds (length v.ran) one
          (λ phase q other. none_else phase q true false is other (λ m. cc m)) was.split)
          (λ i d inside split.
          let a : Added = get_or v.adds i d in
          let none = none-passes (is_add_to k page) v.adds (un.1 page is) i d inside in (
            ap (λ (b : Bool). cond {A = ℕ} b 1 0) ((λ m. flip k a.phase m && flip page a.page m) ∙ none),
            before i d inside split,
          ))
          was.additions_are
          (calls-entry workload v.adds v.ran e was.at
          ∙ (no_stretch workload e (calls_of workload v.adds v.ran) no_look_ran ∙ was.calls)),
      un,
    )

    new : Addition
    new = record { phase = k; page = page; old = old; likes = 1 }

    step : PageStep
    step = page_step v.post.worker k page old (Add 1)

    on_board : is_split_in workload k page ≡ false → P (with_addition v page old 1 number)
    on_board is =
        let a : Added = noted_at (length v.ran) new in
        let all : List Added = v.adds ++ a ∷ [] in
        let count : (phase q : ℕ) → adds_to phase q (a ∷ []) ≡ one phase q =
        λ phase q. (sum_by-cons (λ (b : Added). cond {A = ℕ} (is_add_to phase q b) 1 0) a [] ∙ omega arith) in
        subst (λ (xs : List Added). P (record (with_addition v page old 1 number) { adds = v.adds ++ xs }))
        (sym (noted-each v (new ∷ []) notes)) (
          noted-push workload v.post.did (step ∷ v.post.did) v.adds (a ∷ []) all v.ran e one was by refl
              (record {
                at_end = one_of (λ b. b.at ≡ length v.ran) a refl;
                each = one_of (IsOfLikes workload (v.ran ++ e ∷ [])) a
                    (record {
                      some =
                          omega arith;
                      plain = λ _. refl;
                      split = λ split. (let m = sym is ∙ split in cc m);
                    });
                plain = λ phase q other. count phase q;
                split = λ phase q other.
                    let none = none_else phase q false true is other (λ m. cc m) in
                    let few = was.split phase q other in
                    let same = count phase q in
                    omega arith;
              })
              (λ i d inside other. let b : Added = get_or v.adds i d in
              (none_else b.phase b.page false true is other (λ m. cc m), before i d inside other))
              (ap (λ (xs : List Addition). xs ++ new ∷ []) was.additions_are
              ∙ sym (map-append addition_of v.adds (a ∷ [])))
              (calls-entry workload all v.ran e
              (All-push (λ b. b.at ≤ length v.ran) v.adds a was.at (omega arith))
              ∙ no_stretch workload e (calls_of workload all v.ran) no_look_ran
              ∙ calls-adds workload v.adds (a ∷ []) v.ran (one_of (λ b. b.at ≡ length v.ran) a refl)
              ∙ ap (λ xs. xs ++ new ∷ []) was.calls ∙ sym (stretches-push step v.post.did)),
          (
            All-push (λ b. b.phase ≤ k) v.adds a un.0 (omega arith),
            λ q other.
                let both = sum_by-append (λ (b : Added). cond {A = ℕ} (is_add_to k q b) 1 0) v.adds (a ∷ []) in
                let none = none_else k q false true is other (λ m. cc m) in
                let before = un.1 q other in
                let same = count k q in
                omega arith,
          ),
        )
      where
        one_of : (Q : Added → Type 0) (a : Added) → Q a → All Q (a ∷ [])
        one_of Q a q zero d inside = q
        one_of Q a q (suc i) d inside = absurd (omega arith)

    by_test : (b : Bool) → is_split_at v.post page ≡ b → P (counted v page old number)
    by_test true e' =
        subst (λ (b : Bool). P (cond b (sliced v page) (with_addition v page old 1 number))) (sym e') (in_slice (alike ∙ e'))
    by_test false e' =
        subst (λ (b : Bool). P (cond b (sliced v page) (with_addition v page old 1 number))) (sym e') (on_board (alike ∙ e'))

-- whatever the answer is, of a worker that notes its additions
pub GivesReply-noted : (workload : Workload) (v : WorkerView) (h : Held) (stashed : Bool) (answer : Reply)
    (w : WorkerView)
    → IsServed workload v
    → v.notes ≡ true
    → IsNoted workload v.post.did v.adds v.ran
    → IsUnmerged workload v.adds (state.Runs (phase_at v))
    → IsAsked workload h
    → ((page : ℕ) → is_split_in workload (phase_at v) page ≡ is_split_at v.post page)
    → GivesReply v h.submitter h.ask.request answer w
    → IsNotedNow workload (phase_at v) w (v.ran ++ ran_now v h stashed answer ∷ [])
GivesReply-noted workload v h stashed answer w served notes was un given alike (refuses why is a e) =
    let x = ran_now v h stashed answer in
    let ask = asked-served workload v h served given ∙ ap Some is in
    subst (λ u. IsNotedNow workload (phase_at v) u (v.ran ++ x ∷ [])) (sym e) (
      no_like workload v x v.post.did (refuse why) was (earlier workload v.adds (phase_at v) un) ask (λ page. refl) refl
          (no_stretch workload x (stretches_of v.post.did)
          (ap (option_and_then (λ (a : Ask). stretch_shown x.phase a x.reply)) ask)),
      un,
    )
GivesReply-noted workload v h stashed answer w served notes was un given alike (likes user page is l e) =
    let x = ran_now v h stashed answer in
    let ask = asked-served workload v h served given ∙ ap Some is in
    let counts = one_like workload v x page e.0 (number_of w.post) user notes was un refl ask (alike page) in
    subst (λ u. IsNotedNow workload (phase_at v) u (v.ran ++ x ∷ [])) (sym e.1) (counts.0, counts.1)
GivesReply-noted workload v h stashed answer w served notes was un given alike (looks user page count is s n e) =
    let x = ran_now v h stashed answer in
    let ask = asked-served workload v h served given ∙ ap Some is in
    let read : PageStep = page_step v.post.worker (phase_at v) page count Read in
    let took : stretch_seen workload x ≡ Some (stretch_of read) =
    ap (option_and_then (λ (a : Ask). stretch_shown x.phase a x.reply)) ask ∙ ap (stretch_shown (phase_at v) (look user page)) s
    in
    subst (λ u. IsNotedNow workload (phase_at v) u (v.ran ++ x ∷ [])) (sym e) (
      no_like workload v x (read ∷ v.post.did) (look user page) was (earlier workload v.adds (phase_at v) un) ask
          (λ other. refl) refl
          (ap (λ o. stretches_of v.post.did ++ option_to_list o) took ∙ sym (stretches-push read v.post.did)),
      un,
    )

-- what stands where a phase runs is what stands of the worker's state
pub unmerged-running : (workload : Workload) (adds : List Added) (P : ℕ → Type 0) (s : WorkerState)
    → RunsSome P s
    → IsUnmerged workload adds s
    → IsUnmerged workload adds (state.Runs (phase_of s))
unmerged-running workload adds P (state.Runs k) r u = u
unmerged-running workload adds P (state.Answered k) r u = absurd r
unmerged-running workload adds P state.Gone r u = absurd r

pub running-unmerged : (workload : Workload) (adds : List Added) (P : ℕ → Type 0) (s : WorkerState)
    → RunsSome P s
    → IsUnmerged workload adds (state.Runs (phase_of s))
    → IsUnmerged workload adds s
running-unmerged workload adds P (state.Runs k) r u = u
running-unmerged workload adds P (state.Answered k) r u = absurd r
running-unmerged workload adds P state.Gone r u = absurd r

-- after a look
pub unmerged-seen : (workload : Workload) (adds : List Added) (sight : Sight) (s : WorkerState)
    → IsUnmerged workload adds s
    → IsUnmerged workload adds (seen s sight)
unmerged-seen workload adds sight (state.Runs k) u = u
unmerged-seen workload adds sight state.Gone u = u
unmerged-seen workload adds sight (state.Answered k) u = by_test sight.waits
  where
    by_test : (w : Bool) → IsUnmerged workload adds (cond w (state.Answered k) (state.Runs (k + 1)))
    by_test true = u
    by_test false = (
      λ i d inside. (let low = u i d inside in omega arith),
      λ page is.
          count-none (is_add_to (k + 1) page) adds
          (λ i d inside.
          let a : Added = get_or adds i d in
          let low = u i d inside in
          ap (λ (b : Bool). b && (a.page == page)) (ne_eqb a.phase (k + 1) (λ same. absurd (omega arith)))),
    )

-- What running a request does to likes, replies and last likes.
use Rattle.std.proofs.Common.{◌≡◌, ℕ, ◌+◌, ◌<◌, ◌≤◌, Bool, true, false, cond, eqb, ◌==◌, ◌&&◌, List, [], ◌∷◌, ◌++◌, length, count_by, get_or, set, take, Option, Some, None, refl, sym, ap, ◌∙◌, inl, inr, arith, subst}
use Rattle.std.proofs.Math.Seq.{take-append_seam}
use Rattle.std.proofs.lemmas.Bool.{cases_eq, cases_lt, eq-eqb, ne_eqb}
use Rattle.std.proofs.lemmas.List.{length-append, length-set, get_or-set_same, get_or-set_other, take-append-le}
use Rattle.std.proofs.lemmas.List.Elements.{All-cons, filter-append, filter_map-append}
use Rattle.std.proofs.lemmas.List.Sums.{fold-append, sum_by-append}
use Rattle.std.proofs.lemmas.Option.{slice_get_within}
use Rattle.std.specs.List.{cons_option, filter, slice_get}
use Rattle.std.specs.Prelude.{option_and_then, option_map}
use Rattle.like_requests.specs.Pages.{marks_of}
use Rattle.like_core.specs.WorkerState.{phase_of}
use Rattle.like_core.specs.declared.page_step.PageCall.TheVariants.{Add, Read}
use Rattle.like_core.specs.declared.page_step.PageStep.{PageStep}
use Rattle.like_core.specs.Additions.{added_in, added_to}
use Rattle.like_core.specs.PageSteps.{additions_among, earliest_first, likes_of, page_step}
use Rattle.like_core.specs.Post.{additions_of, additions_in, number_of, pages_of, is_split_at}
use Rattle.like_core.proofs.core.Labels.{added_to-push, added_in-push}
use Rattle.like_tables.specs.UserTable.{last_of}
use Rattle.like_tables.specs.declared.held.Held.{Held}
use Rattle.like_promises.proofs.Asked.{asking, asks-push, like-there, liker-there}
use Rattle.like_promises.specs.Asked.{asked, asks}
use Rattle.like_promises.specs.declared.log.Ran.{Ran}
use Rattle.like_promises.specs.declared.reply.Reply.{Reply}
use Rattle.like_promises.specs.declared.reply.Reply.TheVariants as reply
use Rattle.like_roles.specs.worker.Follows.{ArePlainReads, IsAsked, IsServed, IsSized, IsTallied}
use Rattle.like_promises.specs.Likes.{is_like_of, likes_among, likes_within}
use Rattle.like_promises.specs.Replies.{HasRightAnswers, IsRightAnswer, uncounted}
use Rattle.like_promises.specs.RunStore.{start, store_after}
use Rattle.like_promises.specs.Store as store
use Rattle.like_promises.specs.Store.{Ask, Store, after, after_all, like, look, refuse}
use Rattle.like_roles.specs.worker.Serve.{GivesReply, refuses, likes, looks, with_addition, counted, liked, shown, ran_now}
use Rattle.like_promises.specs.Workload.{Workload, is_split_in, submitters}
use Rattle.like_roles.specs.worker.WorkerView.{WorkerView, asked_in, phase_at}
use Rattle.like_promises.proofs.Lists.{slice_get-at_end, slice_get-before}
use Rattle.like_roles.proofs.Served.{counted_by}
use Rattle.like_seat.specs.StationView.{IsSliceInSplit}
use Rattle.like_roles.proofs.counts.Steps.{counted-steps, plain_told-push, steps_ran-none, steps_ran-push}
use Rattle.like_serial.specs.StepsTold.{plain_told, step_asked, step_ran, step_told, steps_ran}

-- how many of what is asked are likes of the page
abbrev pub page_likes : ℕ → List Ask → ℕ
page_likes page given = count_by (is_like_of page) given

-- one thing more counts if it is a like of the page
page_likes-push : (page : ℕ) (given : List Ask) (a : Ask)
    → page_likes page (given ++ a ∷ []) ≡ page_likes page given + cond (is_like_of page a) 1 0
page_likes-push page given a = sum_by-append (λ x. cond (is_like_of page x) 1 0) given (a ∷ []) ∙ omega arith

-- the store after one entry more
store-push : (workload : Workload) (ran : List Ran) (e : Ran) (a : Ask)
    → asked workload e.submitter e.number ≡ Some a
    → store_after workload (ran ++ e ∷ []) ≡ after (store_after workload ran) a
store-push workload ran e a is =
    ap (after_all (start workload)) (asks-push workload ran e a is)
    ∙ fold-append after (start workload) (asks workload ran) (a ∷ [])

-- the likes among two lists of entries
pub likes_among-append : (workload : Workload) (page : ℕ) (xs ys : List Ran)
    → likes_among workload page (xs ++ ys) ≡ likes_among workload page xs + likes_among workload page ys
likes_among-append workload page xs ys =
    ap (page_likes page) (filter_map-append (λ (e : Ran). asked workload e.submitter e.number) xs ys)
    ∙ sum_by-append (λ x. cond (is_like_of page x) 1 0) (asks workload xs) (asks workload ys)

-- what a stashed request asks of the worker is what it asks by the workload
pub asked-served : (workload : Workload) (v : WorkerView) (h : Held)
    → IsServed workload v
    → IsAsked workload h
    → asked workload h.submitter h.ask.number ≡ Some (asked_in v.last.share h.submitter h.ask.request)
asked-served workload v h served given =
    ap (option_map (asking workload.users (submitters workload) h.submitter)) given.asked
    ∙ ap (λ n. Some (asking n (submitters workload) h.submitter h.ask.request)) served.users
    ∙ ap (λ n. Some (asking v.last.share.users n h.submitter h.ask.request)) served.submitters_alike

-- one more right answer
pub HasRightAnswers-push : (workload : Workload) (ran : List Ran) (e : Ran)
    → HasRightAnswers workload ran
    → IsRightAnswer workload ran e
    → HasRightAnswers workload (ran ++ e ∷ [])
HasRightAnswers-push workload ran e all right i f h =
    let n : i < length (ran ++ e ∷ []) = slice_get_within (ran ++ e ∷ []) i f h in
    let m : i < length ran + 1 = simp length-append at n in
    elim (cases_lt i (length ran)) [
      | inl earlier ↦
          let old : slice_get ran i ≡ Some f = sym (slice_get-before ran (e ∷ []) i earlier) ∙ h in
          let le : i ≤ length ran = omega arith in
          rw take-append-le (all i f old)
      | inr at_end ↦
          let same : length ran ≡ i = omega arith in
          let g : Some e ≡ Some f =
          sym (subst (λ k. slice_get (ran ++ e ∷ []) k ≡ Some e) same (slice_get-at_end ran e)) ∙ h in
          let it : e ≡ f = cc g in
          let front : take i (ran ++ e ∷ []) ≡ ran =
          subst (λ k. take k (ran ++ e ∷ []) ≡ ran) same (take-append_seam ran (e ∷ [])) in
          rw (front, ← it) right
    ]

-- an answer to what an entry asked
right-by_ask : (workload : Workload) (ran : List Ran) (e : Ran) (a : Ask)
    → asked workload e.submitter e.number ≡ Some a
    → uncounted (store.reply (store_after workload ran) a) ≡ uncounted e.reply
    → IsRightAnswer workload ran e
right-by_ask workload ran e a is same =
    ap (option_map (λ x. uncounted (store.reply (store_after workload ran) x))) is ∙ ap Some same

-- one more of a number that stands at a place
one_more-at : (xs : List ℕ) (page other : ℕ)
    → page < length xs
    → get_or (set xs page (get_or xs page 0 + 1)) other 0 ≡ get_or xs other 0 + cond (eqb page other) 1 0
one_more-at xs page other h =
    elim (cases_eq page other) [
      | inl same ↦
          let e = eq-eqb page other same in
          rw e (subst (λ k. get_or (set xs page (get_or xs page 0 + 1)) k 0 ≡ get_or xs k 0 + 1) same
          (get_or-set_same xs page (get_or xs page 0 + 1) 0 h))
      | inr differs ↦
          let e = ne_eqb page other differs in
          rw e (get_or-set_other xs page other (get_or xs page 0 + 1) 0 (λ k. differs (sym k)) ∙ omega arith)
    ]

-- one more accepted like in the slice or on the board
counted-one : (v : WorkerView) (page old number other : ℕ) → page < length v.slice
    → additions_of (counted v page old number).post other + get_or (counted v page old number).slice other 0
    ≡ (additions_of v.post other + get_or v.slice other 0) + cond (eqb page other) 1 0
counted-one v page old number other in_slice =
    counted_by (λ w. additions_of w.post other + get_or w.slice other 0
    ≡ (additions_of v.post other + get_or v.slice other 0) + cond (eqb page other) 1 0)
    v page old number (omega (arith, one_more-at v.slice page other in_slice))
    (let push : additions_of (with_addition v page old 1 number).post other
    ≡ additions_of v.post other + cond (eqb page other) 1 0 =
    added_to-push (additions_among v.post.did) (phase_of v.post.state) page old 1 other in
    omega arith)

-- and in its phase
counted-in : (v : WorkerView) (page old number other phase : ℕ) → page < length v.slice
    → additions_in (counted v page old number).post phase other
    + cond (phase_at (counted v page old number) == phase) (get_or (counted v page old number).slice other 0) 0
    ≡ (additions_in v.post phase other + cond (phase_at v == phase) (get_or v.slice other 0) 0)
    + cond (phase_at v == phase) (cond (page == other) 1 0) 0
counted-in v page old number other phase in_slice =
    counted_by (λ w. additions_in w.post phase other + cond (phase_at w == phase) (get_or w.slice other 0) 0
    ≡ (additions_in v.post phase other + cond (phase_at v == phase) (get_or v.slice other 0) 0)
    + cond (phase_at v == phase) (cond (page == other) 1 0) 0)
    v page old number
    (let more = ap (λ (k : ℕ). cond (phase_at v == phase) k 0) (one_more-at v.slice page other in_slice) in
    let parts = cond_sum (phase_at v == phase) (get_or v.slice other 0) (cond (page == other) 1 0) in
    omega arith)
    (let push = added_in-push (additions_among v.post.did) (phase_at v) page old 1 phase other in
    let both = cond_both (phase_at v == phase) (page == other) in
    omega arith)
  where
    cond_sum : (b : Bool) (m n : ℕ) → cond b (m + n) 0 ≡ cond b m 0 + cond b n 0
    cond_sum true m n = refl
    cond_sum false m n = refl

    cond_both : (b c : Bool) → cond {A = ℕ} (b && c) 1 0 ≡ cond b (cond c 1 0) 0
    cond_both true c = refl
    cond_both false c = refl

-- and is an addition, if it is a step
counted-reads : (workload : Workload) (v : WorkerView) (page old number : ℕ)
    → ArePlainReads workload v.post.did
    → ArePlainReads workload (counted v page old number).post.did
counted-reads workload v page old number reads =
    counted_by (λ w. ArePlainReads workload w.post.did) v page old number reads
    (All-cons (λ s. likes_of s.call ≡ 0 → is_split_in workload s.phase s.page ≡ false)
    (page_step v.post.worker (phase_at v) page old (Add 1)) v.post.did (λ none. absurd (cc none)) reads)

-- a like that is counted changes no size, and whom the worker serves as little
counted-sized : (v : WorkerView) (page old number : ℕ) → IsSized v → IsSized (counted v page old number)
counted-sized v page old number s =
    counted_by IsSized v page old number (record { slice = length-set v.slice page _ ∙ s.slice; users = s.users }) s

counted-served : (workload : Workload) (v : WorkerView) (page old number : ℕ)
    → IsServed workload v
    → IsServed workload (counted v page old number)
counted-served workload v page old number s = counted_by (IsServed workload) v page old number s s

-- one entry more is one of its phase, if it asked for a like
pub within-push : (workload : Workload) (ran : List Ran) (e : Ran) (a : Ask) (page phase : ℕ)
    → asked workload e.submitter e.number ≡ Some a
    → likes_within workload page (ran ++ e ∷ []) phase
    ≡ likes_within workload page ran phase + cond (e.phase == phase) (cond (is_like_of page a) 1 0) 0
within-push workload ran e a page phase is =
    let p : Ran → Bool = λ x. x.phase == phase in
    let e_is = last_is (p e) in
    ap (likes_among workload page) (filter-append p ran (e ∷ []))
    ∙ (likes_among-append workload page (filter p ran) (cond (p e) (e ∷ []) []) ∙ omega arith)
  where
    last_is : (b : Bool)
        → page_likes page (asks workload (cond b (e ∷ []) [])) ≡ cond b (cond (is_like_of page a) 1 0) 0
    last_is true =
        let one : page_likes page (a ∷ []) ≡ cond (is_like_of page a) 1 0 = omega arith in
        ap (page_likes page) (ap (λ (x : Option Ask). cons_option x []) is) ∙ one
    last_is false = refl

-- and changes no number if it asked for none
pub within-none : (workload : Workload) (ran : List Ran) (e : Ran) (a : Ask) (page phase : ℕ)
    → asked workload e.submitter e.number ≡ Some a
    → is_like_of page a ≡ false
    → likes_within workload page (ran ++ e ∷ []) phase ≡ likes_within workload page ran phase
within-none workload ran e a page phase is unlike =
    let more = within-push workload ran e a page phase is in
    let none : cond {A = ℕ} (e.phase == phase) (cond {A = ℕ} (is_like_of page a) 1 0) 0 ≡ 0 =
    ap (λ (c : Bool). cond {A = ℕ} (e.phase == phase) (cond {A = ℕ} c 1 0) 0) unlike ∙ both (e.phase == phase) in
    omega arith
  where
    both : (b : Bool) → cond {A = ℕ} b 0 0 ≡ 0
    both true = refl
    both false = refl

-- what holds after an answer that is noted
abbrev IsAfter : Workload → WorkerView → Held → Bool → Reply → WorkerView → Type 0
IsAfter workload v h stashed answer w =
    IsServed workload w × IsSized w × IsTallied workload (record w { ran = v.ran ++ ran_now v h stashed answer ∷ [] })

-- the worker, whose post has done this
abbrev with_did : WorkerView → List PageStep → WorkerView
with_did v did = record v { post = record v.post { did = did } }

-- an entry that asked for no like changes neither likes nor last likes; this is what the post did then, which has added
-- nothing
unchanged : (workload : Workload) (v : WorkerView) (h : Held) (stashed : Bool) (answer : Reply) (did : List PageStep)
    (a : Ask)
    → additions_among did ≡ additions_among v.post.did
    → IsServed workload v
    → IsSized v
    → IsTallied workload v
    → asked workload h.submitter h.ask.number ≡ Some a
    → ((page : ℕ) → is_like_of page a ≡ false)
    → after (store_after workload v.ran) a ≡ store_after workload v.ran
    → IsRightAnswer workload v.ran (ran_now v h stashed answer)
    → plain_told workload (earliest_first did) ≡ steps_ran workload (v.ran ++ ran_now v h stashed answer ∷ [])
    → ArePlainReads workload did
    → IsAfter workload v h stashed answer (with_did v did)
unchanged workload v h stashed answer did a same_adds served sized t ask unlike still right steps reads =
    let e = ran_now v h stashed answer in
    let same : (page : ℕ) → likes_among workload page (v.ran ++ e ∷ []) ≡ likes_among workload page v.ran =
    λ page. (
    let more = ap (page_likes page) (asks-push workload v.ran e a ask) ∙ page_likes-push page (asks workload v.ran) a in
    let none : cond {A = ℕ} (is_like_of page a) 1 0 ≡ 0 = ap (λ (b : Bool). cond {A = ℕ} b 1 0) (unlike page) in
    omega arith) in (
      served,
      sized,
      record {
        likes = λ page. same page ∙ t.likes page
            ∙ ap (λ xs. added_to page xs + get_or v.slice page 0) (sym same_adds);
        by_phase = λ phase page. within-none workload v.ran e a page phase ask (unlike page) ∙ t.by_phase phase page
            ∙ ap (λ xs. added_in phase page xs + cond (phase_at v == phase) (get_or v.slice page 0) 0) (sym same_adds);
        steps = steps;
        reads = reads;
        replies = HasRightAnswers-push workload v.ran e t.replies right;
        last = λ user. t.last user ∙ ap (λ (s : Store). s.last user) (sym (store-push workload v.ran e a ask ∙ still));
      },
    )

-- a like
one_like : (workload : Workload) (v : WorkerView) (h : Held) (stashed : Bool) (user page old number : ℕ)
    → IsServed workload v
    → IsSized v
    → IsTallied workload v
    → asked workload h.submitter h.ask.number ≡ Some (like user page)
    → page < pages_of v.post
    → user < v.last.share.users
    → is_split_in workload (phase_at v) page ≡ is_split_at v.post page
    → IsAfter workload v h stashed reply.Liked (liked v user page old number)
one_like workload v h stashed user page old number served sized t ask in_pages in_users alike =
    let e = ran_now v h stashed reply.Liked in
    let a : Ask = like user page in
    let in_slice : page < length v.slice = omega (arith, sized.slice) in
    let in_table : user < length v.last.last = omega (arith, sized.users) in
    let s = counted-served workload v page old number served in
    let z = counted-sized v page old number sized in
    let then : (other : ℕ)
    → (store_after workload (v.ran ++ e ∷ [])).last other
    ≡ cond (eqb user other) (Some page) ((store_after workload v.ran).last other) =
    λ other. ap (λ (x : Store). x.last other) (store-push workload v.ran e a ask) in (
      record {
        users =
            served.users;
        submitters_alike =
            served.submitters_alike;
        marks_alike = s.marks_alike;
        hot_alike = s.hot_alike;
        stash_alike = s.stash_alike;
        run = s.run;
      },
      record { slice = z.slice; users = length-set v.last.last user (Some page) ∙ sized.users },
      record {
        likes = λ other.
            ap (page_likes other) (asks-push workload v.ran e a ask) ∙ page_likes-push other (asks workload v.ran) a
            ∙ ap (λ n. n + cond (eqb page other) 1 0) (t.likes other)
            ∙ sym (counted-one v page old number other in_slice);
        by_phase = λ phase other.
            within-push workload v.ran e a other phase ask
            ∙ ap (λ n. n + cond (phase_at v == phase) (cond (page == other) 1 0) 0) (t.by_phase phase other)
            ∙ sym (counted-in v page old number other phase in_slice);
        steps = counted-steps workload v e user page old number t.steps refl ask alike;
        reads = counted-reads workload v page old number t.reads;
        replies = HasRightAnswers-push workload v.ran e t.replies (right-by_ask workload v.ran e a ask refl);
        last = λ other. elim (cases_eq user other) [
          | inl same ↦
              subst (λ k. get_or (set v.last.last user (Some page)) k None ≡ Some page) same
              (get_or-set_same v.last.last user (Some page) None in_table)
              ∙ sym (then other
              ∙ ap (λ (b : Bool). cond b (Some page) ((store_after workload v.ran).last other)) (eq-eqb user other same))
          | inr differs ↦
              get_or-set_other v.last.last user other (Some page) None (λ k. differs (sym k)) ∙ t.last other
              ∙ sym (then other
              ∙ ap (λ (b : Bool). cond b (Some page) ((store_after workload v.ran).last other)) (ne_eqb user other differs))
        ];
      },
    )

-- the slice has nothing of a page that is not split
clear : (v : WorkerView) (page : ℕ)
    → IsSliceInSplit v.post v.slice
    → is_split_at v.post page ≡ false
    → get_or v.slice page 0 ≡ 0
clear v page kept unsplit = elim (cases_eq (get_or v.slice page 0) 0) [
  | inl none ↦ none
  | inr some ↦ let is = (kept page some).1 in absurd (cc (is, unsplit))
]

-- whatever the answer is
pub GivesReply-tallied : (workload : Workload) (v : WorkerView) (h : Held) (stashed : Bool) (answer : Reply)
    (w : WorkerView)
    → IsServed workload v
    → IsSized v
    → IsTallied workload v
    → IsAsked workload h
    → IsSliceInSplit v.post v.slice
    → ((page : ℕ) → is_split_in workload (phase_at v) page ≡ is_split_at v.post page)
    → ((user page : ℕ) → asked_in v.last.share h.submitter h.ask.request ≡ look user page → is_split_at v.post page ≡ false)
    → GivesReply v h.submitter h.ask.request answer w → IsAfter workload v h stashed answer w
GivesReply-tallied workload v h stashed answer w served sized t given kept alike plain (refuses why is a e) =
    let x = ran_now v h stashed (reply.Refused why) in
    let ask = asked-served workload v h served given ∙ ap Some is in
    subst (λ y. IsAfter workload v h stashed answer y) (sym e)
    (subst (λ y. IsAfter workload v h stashed y v) (sym a)
    (unchanged workload v h stashed (reply.Refused why) v.post.did (refuse why) refl served sized t ask (λ page. refl) refl
    (right-by_ask workload v.ran x (refuse why) ask refl)
    (t.steps ∙ sym (steps_ran-none workload v.ran x (ap (option_and_then (step_asked workload x)) ask))) t.reads))
GivesReply-tallied workload v h stashed answer w served sized t given kept alike plain (likes user page is l e) =
    let r = h.ask.request in
    let share = v.last.share in
    let ask = asked-served workload v h served given ∙ ap Some is in
    let in_marks : page < length (marks_of workload.pages) =
    like-there share.users share.submitters h.submitter r (length (marks_of workload.pages)) given.there user page is in
    let in_pages : page < pages_of v.post = omega (arith, in_marks, ap length served.marks_alike) in
    let in_users : user < share.users = liker-there share.users share.submitters h.submitter r user page is in
    subst (λ y. IsAfter workload v h stashed answer y) (sym e.1)
    (subst (λ y. IsAfter workload v h stashed y (liked v user page e.0 (number_of w.post))) (sym l)
    (one_like workload v h stashed user page e.0 _ served sized t ask in_pages in_users (alike page)))
GivesReply-tallied workload v h stashed answer w served sized t given kept alike plain (looks user page count is s n e) =
    let seen = reply.Seen (last_of v.last user) count in
    let x = ran_now v h stashed seen in
    let ask = asked-served workload v h served given ∙ ap Some is in
    let right = right-by_ask workload v.ran x (look user page) ask (ap (λ last. reply.Seen last 0) (sym (t.last user))) in
    let now : ℕ = phase_at v in
    let unsplit = plain user page is in
    let step : PageStep = page_step v.post.worker now page count Read in
    let took : step_ran workload x ≡ Some (step_told step) = ap (option_and_then (step_asked workload x)) ask in
    let steps : plain_told workload (earliest_first v.post.did ++ step ∷ []) ≡ steps_ran workload (v.ran ++ x ∷ []) =
    plain_told-push workload (earliest_first v.post.did) step (alike page ∙ unsplit)
    ∙ (ap (λ xs. xs ++ step_told step ∷ []) t.steps ∙ sym (steps_ran-push workload v.ran x (step_told step) took))
    in
    let P : Reply → Type 0 = λ y. IsAfter workload v h stashed y (shown v page count (number_of w.post)) in
    subst (λ y. IsAfter workload v h stashed answer y) (sym e)
    (subst P (sym s)
    (unchanged workload v h stashed seen (step ∷ v.post.did) (look user page) refl served sized t ask (λ other. refl)
    refl right steps
    (All-cons (λ q. likes_of q.call ≡ 0 → is_split_in workload q.phase q.page ≡ false) step v.post.did
    (λ _. alike page ∙ unsplit) t.reads)))

-- A like that a worker counts, and an addition that it notes.
use Rattle.std.proofs.Common.{◌≡◌, ℕ, ◌+◌, ◌<◌, ◌≤◌, Bool, cond, [], ◌∷◌, ◌++◌, length, get_or, sum, Some, None, refl, ap, sym, ◌∙◌, arith, subst}
use Rattle.std.proofs.lemmas.List.Sums.{sum_by-set}
use Rattle.like_core.specs.Additions.{all_added}
use Rattle.like_core.specs.Post.{has_read, number_of, pages_of}
use Rattle.like_core.specs.PageSteps.{additions_among}
use Rattle.like_tables.specs.UserTable.{with_last}
use Rattle.like_tables.specs.declared.held.Held.{Held}
use Rattle.like_seat.specs.StationView.{IsStation, StationView, phase_at}
use Rattle.like_seat.specs.declared.merged.Merged.{Merged}
use Rattle.like_seat.specs.Steps as steps
use Rattle.like_seat.specs.Steps.{CountsLike, MergesPage, liked_last, sliced, with_addition}
use Rattle.like_roles.specs.declared.worker.ledger.Ledger.{Ledger}
use Rattle.like_roles.specs.worker.Ledger.{HasNoted, HasRoomForOne, HasRoomToNote, IsSettled, view_of}
use Rattle.like_roles.specs.worker.Serve as serve
use Rattle.like_roles.specs.worker.Serve.{Likes, noted_if}
use Rattle.like_seat.proofs.MergedLikes.{all_added-push, merged_page-likes}
use Rattle.like_roles.proofs.Held.{settled-still}

-- an addition that was noted is the worker's
pub noting-view : (t : StationView Held) (d e : Ledger) (phase page old n : ℕ)
    → HasNoted d e phase page old n
    → phase ≡ phase_at t
    → view_of t e ≡ serve.noting (view_of t d) page old n
noting-view t d e phase page old n h is =
    ap (view_of t) h.rest
    ∙ (λ m. record (view_of t d) { adds = h.noted m })
    ∙ (λ m. record (view_of t d) {
      adds =
          d.adds.items ++ noted_if d.notes (length d.ran.items)
          (record { phase = is m; page = page; old = old; likes = n } ∷ []);
    })

-- a like in the slice
pub liked-slice : (s t : StationView Held) (d : Ledger) (user page : ℕ)
    → IsSettled s d
    → HasRoomForOne s d
    → IsStation t
    → page < pages_of s.post
    → CountsLike s user page None t
    → IsSettled t d × HasRoomToNote t d × Likes (view_of s d) user page (view_of t d)
liked-slice s t d user page is room station there c =
    let now = liked_last (sliced s page) user page in
    let v = view_of s d in
    let inside : page < length s.slice = omega (arith, is.sound.station.sized) in
    let more : sum now.slice ≡ sum s.slice + 1 =
    omega (arith, sum_by-set (λ x. x) s.slice page (get_or s.slice page 0 + 1) 0 inside) in
    let before = is.sound.room in (
      settled-still s t now d d is station c.1 refl refl refl refl (record {
        taken = before.taken;
        ran = before.ran;
        few_ran = before.few_ran;
        adds = λ n. omega (arith, room.adds n, more);
        few = omega (arith, room.few, more);
      }) refl,
      subst (λ x. HasRoomToNote x d) (sym c.1) room.ran,
      (
        0,
        ap (λ x. view_of x d) c.1
            ∙ sym (ap (λ (b : Bool). record (cond b (view_of (sliced s page) d) (serve.with_addition v page 0 1 (number_of t.post))) {
              last =
                  with_last s.last user page;
            }) c.0),
      ),
    )

-- a like on the board, which was noted
pub liked-board : (s t : StationView Held) (d e : Ledger) (user page phase count : ℕ)
    → IsSettled s d
    → HasRoomForOne s d
    → IsStation t
    → CountsLike s user page (Some count) t
    → phase ≡ phase_at s
    → HasNoted d e phase page count 1
    → IsSettled t e × HasRoomToNote t e × Likes (view_of s d) user page (view_of t e)
liked-board s t d e user page phase count is room station c phase_is h =
    let now = liked_last (with_addition s page count 1 (number_of t.post)) user page in
    let v = view_of s d in
    let more : all_added (additions_among now.post.did) ≡ all_added (additions_among s.post.did) + 1 =
    all_added-push (additions_among s.post.did) (record { phase = phase_at s; page = page; old = count; likes = 1 }) in
    let before = is.sound.room in
    let noted : view_of now e ≡ serve.noting (view_of now d) page count 1 =
    noting-view now d e phase page count 1 h phase_is in (
      settled-still s t now d e is station c.1 refl refl refl refl (record {
        taken = before.taken;
        ran = before.ran;
        few_ran = before.few_ran;
        adds = λ n. omega (arith, room.adds n, h.len n, h.capacity);
        few = omega (arith, room.few, more);
      }) h.rest,
      subst (λ x. HasRoomToNote x e) (sym c.1)
          (subst (λ x. HasRoomToNote now x) (sym h.rest) room.ran),
      (
        count,
        ap (λ x. view_of x e) c.1
            ∙ (noted ∙ sym (ap (λ (b : Bool). record (cond b (view_of (sliced s page) d)
            (serve.with_addition v page count 1 (number_of t.post))) { last = with_last s.last user page }) c.0)),
      ),
    )

-- a read leaves all else as it is
pub read-settled : (s t : StationView Held) (d : Ledger) (page count : ℕ)
    → IsSettled s d
    → IsStation t
    → t ≡ record s { post = has_read s.post page count (number_of t.post) }
    → IsSettled t d
read-settled s t d page count is station e =
    let now = record s { post = has_read s.post page count (number_of t.post) } in
    settled-still s t now d d is station e refl refl refl refl is.sound.room refl

-- a page that was merged, and noted, leaves room
pub merged-settled : (s t : StationView Held) (d e : Ledger) (from phase : ℕ) (m : Merged)
    → IsSettled s d
    → IsStation t
    → MergesPage s from m t
    → HasNoted d e phase m.page m.old m.likes
    → IsSettled t e
merged-settled s t d e from phase m is station merges h =
    let now = steps.merged_page s m.page m.old (number_of t.post) in
    let page = m.page in
    let likes : ℕ = get_or s.slice page 0 in
    let liked = merges.next.liked in
    let some : 1 ≤ likes = omega (arith, liked) in
    let less : sum now.slice + likes ≡ sum s.slice =
    omega (arith, sum_by-set (λ x. x) s.slice page 0 0 merges.next.there) in
    let same = merged_page-likes s page m.old (number_of t.post) merges.next.there in
    let before = is.sound.room in
    settled-still s t now d e is station merges.merged refl refl refl refl (record {
      taken = before.taken;
      ran = before.ran;
      few_ran = before.few_ran;
      adds = λ n. omega (arith, before.adds n, h.len n, h.capacity, less, some);
      few = omega (arith, before.few, same);
    }) h.rest

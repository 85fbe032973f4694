-- What is known once a look showed all seats gone, and what is read then.
use Rattle.std.proofs.Common.{◌≡◌, ◌+◌, ◌<◌, ℕ, suc, zero, Bool, true, false, List, [], ◌∷◌, length, slice_index, All, Option, Some, ap, sym, refl, ◌∙◌, subst, arith, add-zero}
use Rattle.std.proofs.lemmas.List.Elements.{All-head, All-tail}
use Rattle.std.specs.Prelude.{IfSome, IsSomeAnd}
use Rattle.like_core.specs.Phase.{IsJoined}
use Rattle.like_core.specs.WorkerState.{IsIn}
use Rattle.like_core.specs.core.Numbers.{CoordSees}
use Rattle.like_core.specs.core.State.{numbers}
use Rattle.like_core.specs.word.ShownWord.{shown_word}
use Rattle.like_core.specs.declared.opening.Opening.{Opening}
use Rattle.like_core.specs.declared.sight.CoordSight.{CoordSight}
use Rattle.like_core.specs.declared.view.CoordSeatView.{CoordSeatView}
use Rattle.like_core.specs.declared.view.PageCount.{PageCount}
use Rattle.like_core.specs.declared.view.View.TheVariants.{Coord}
use Rattle.like_core.specs.views.Places.{count_after}
use Rattle.like_core.specs.views.Shows.{FitsCoord, IsLastMoment, IsKnown}
use Rattle.like_core.specs.views.Views.{SawAllIn, counted_coord}
use Rattle.like_core.proofs.views.Ends.{counted_now, end_known}
use Rattle.like_seat.specs.Lead.{LeadView, Sees, announced, counted_from, with_counts}
use Rattle.like_live.specs.Driver.{AreLastCounts, AsksLast, LastCountsStay, LooksForEnd, ReadsLast, counted, ends, goes_on, is_ending, is_last, not_ended}
use Rattle.like_live.proofs.Turning.{look-keeps, reads-only}

-- who shows all gone shows all in
all-in-once-gone : (v seen : LeadView) (sight : CoordSight)
    → Sees v sight seen
    → sight.all_gone ≡ true
    → sight.all_in ≡ true
all-in-once-gone v seen sight sees gone =
    let told = sees.event.happen.tells in
    let same : told.0 ≡ sight = cc (told.1) in
    let known = told.2 in
    let all = known.all_gone.0 (ap (λ (s : CoordSight). s.all_gone) same ∙ gone) in
    sym (ap (λ (s : CoordSight). s.all_in) same) ∙ known.all_in.1 (λ i below. subst (IsIn _) (sym (all i below)) tt)

-- the end was seen: the last sight shows a joined phase that is ending, and all gone
pub record SawEnd (v : LeadView) : Type 0 where
  pub saw : SawAllIn v.seat
  pub joined : IsJoined v.seat.phase
  pub sight : CoordSight
  pub last : v.seat.last ≡ Some sight
  pub ending : sight.ending ≡ true
  pub all_in : sight.all_in ≡ true
  pub all_gone : sight.all_gone ≡ true
  pub known : IsKnown v.seat.opening (Coord v.seat)

sees-end : (v w : LeadView) (sight : CoordSight)
    → Sees v sight w
    → sight.all_gone ≡ true
    → sight.ending ≡ true
    → IsJoined w.seat.phase
    → SawEnd w
sees-end v w sight sees gone ending joined =
    let kept = look-keeps v w sight sees in
    let all_in = all-in-once-gone v w sight sees gone in
    record {
      saw = subst (λ (o : Option CoordSight). IsSomeAnd o (λ s. (s.ending ≡ true) × (s.all_in ≡ true)))
          (sym kept.last) (ending, all_in);
      joined = joined;
      sight = sight;
      last = kept.last;
      ending = ending;
      all_in = all_in;
      all_gone = gone;
      known = subst (λ (z : Opening). IsKnown z (Coord w.seat)) (sym kept.same.opening) sees.known;
    }

pub end-seen : (v w : LeadView) → LooksForEnd v true w → SawEnd w
end-seen v w (goes_on _ _ _ clash) = absurd (cc)
end-seen v w (is_last _ _ _ _ _ clash) = absurd (cc)
end-seen v w (is_ending sight sees left ending _) = sees-end v w sight sees left.all_gone ending left.joined
end-seen v w (ends sight again seen sees left _ _ sees_again is) =
    let second = look-keeps (announced seen) w again sees_again in
    sees-end (announced seen) w again sees_again (sym is) sees_again.shows.ending
    (subst IsJoined (sym second.phase) left.joined)

-- the counts that were read, of the pages from one on, are among all that the coordinator read in its phase
read-of : (P : PageCount → Type 0) (c : CoordSeatView) (from : ℕ) (counts : List ℕ)
    → All P (counted_from c from counts).counted
    → All P c.counted
read-of P c from [] all = all
read-of P c from (x ∷ counts) all =
    All-tail P (record { phase = c.phase; page = from; count = x }) c.counted
    (read-of P (counted_coord c from x) (from + 1) counts all)

reads-at : (P : PageCount → Type 0) (c : CoordSeatView) (from : ℕ) (counts : List ℕ) (i : ℕ)
    → All P (counted_from c from counts).counted
    → i < length counts
    → P (record { phase = c.phase; page = from + i; count = slice_index counts i })
reads-at P c from [] i all below = absurd (omega arith)
reads-at P c from (x ∷ counts) zero all below =
    subst (λ p. P (record { phase = c.phase; page = p; count = x })) (sym (add-zero from))
    (All-head P (record { phase = c.phase; page = from; count = x }) c.counted
    (read-of P (counted_coord c from x) (from + 1) counts all))
reads-at P c from (x ∷ counts) (suc i) all below =
    let later : from + 1 + i ≡ from + suc i = omega arith in
    subst (λ p. P (record { phase = c.phase; page = p; count = slice_index counts i })) later
    (reads-at P (counted_coord c from x) (from + 1) counts i all (omega arith))

-- they are last counts
pub last-totals : (v w : LeadView) (from : ℕ) (counts : List ℕ)
    → SawEnd v
    → w ≡ with_counts v from counts
    → IsKnown v.seat.opening (Coord w.seat)
    → AreLastCounts w from counts
last-totals v w from counts saw is known =
    let only = reads-only v.seat from counts in
    let seat : w.seat ≡ counted_from v.seat from counts = ap (λ (l : LeadView). l.seat) is in
    let opening : w.seat.opening ≡ v.seat.opening = ap (λ (d : CoordSeatView). d.opening) seat ∙ only.opening in
    let end : IsLastMoment w.seat.opening w.seat =
    end_known w.seat.opening w.seat saw.sight (subst (λ (z : Opening). IsKnown z (Coord w.seat)) (sym opening) known)
    (ap (λ (d : CoordSeatView). d.last) seat ∙ only.last ∙ saw.last) saw.ending saw.all_in saw.all_gone in
    let phase : v.seat.phase ≡ w.seat.phase = sym (ap (λ (d : CoordSeatView). d.phase) seat ∙ only.phase) in
    let P : PageCount → Type 0 =
    λ r. r.phase ≡ w.seat.phase → r.count ≡ count_after w.seat.opening.counts end.moment.views r.page in
    let all : All P (counted_from v.seat from counts).counted =
    subst (All P) (ap (λ (d : CoordSeatView). d.counted) seat) (counted_now w.seat.opening w.seat end.moment end.mine) in
    record { end = end; totals = λ i below. reads-at P v.seat from counts i all below phase }

-- the end is still seen: what the last sight showed
record StillEnded (v : LeadView) : Type 0 where
  pub joined : IsJoined v.seat.phase
  pub sight : CoordSight
  pub last : v.seat.last ≡ Some sight
  pub ending : sight.ending ≡ true
  pub all_in : sight.all_in ≡ true
  pub all_gone : sight.all_gone ≡ true

-- the next look shows it again
record ShowsEnd (again : CoordSight) : Type 0 where
  pub ending : again.ending ≡ true
  pub all_gone : again.all_gone ≡ true

seen-again : (v w : LeadView) (again : CoordSight) → StillEnded v → Sees v again w → ShowsEnd again
seen-again v w again saw sees =
    let m = sees.event.moment in
    let z = v.seat.opening in
    let fits : FitsCoord z m.shown.state v.seat = m.shown.shows.seats.each sees.event.place (Coord v.seat) sees.event.mine in
    let stays = subst (λ (o : Option CoordSight). IfSome o (λ s. s.ending ≡ true → s.all_in ≡ true
    → CoordSees (numbers z m.shown.state) s × (v.seat.word ≡ shown_word z m.shown.state))) saw.last fits.phase.stays in
    let before = stays saw.ending saw.all_in in
    let told = sees.event.happen.tells in
    let same : told.0 ≡ again = cc (told.1) in
    let known = told.2 in
    record {
      ending = sym (ap (λ (s : CoordSight). s.ending) same) ∙ known.ending ∙ sym before.0.ending ∙ saw.ending;
      all_gone = sym (ap (λ (s : CoordSight). s.all_gone) same) ∙ known.all_gone.1 (before.0.all_gone.0 saw.all_gone);
    }

-- so it is found again, by one look
record FoundAgain (v w : LeadView) (is_end : Bool) : Type 0 where
  pub is : is_end ≡ true
  pub counted : w.seat.counted ≡ v.seat.counted

found-again : (v w : LeadView) (is_end : Bool) → StillEnded v → LooksForEnd v is_end w → FoundAgain v w is_end
found-again v w is_end saw (goes_on sight sees clash _) =
    let shows = seen-again v w sight saw sees in
    let joined = subst IsJoined (sym (look-keeps v w sight sees).phase) saw.joined in
    absurd (clash (record { joined = joined; all_gone = shows.all_gone }))
found-again v w is_end saw (is_last sight sees _ none _ _) =
    let bad : true ≡ false = sym (seen-again v w sight saw sees).ending ∙ none in absurd (cc)
found-again v w is_end saw (is_ending sight sees _ _ is) =
    record { is = is; counted = ap (λ (l : LeadView). l.seat.counted) sees.saw }
found-again v w is_end saw (ends sight again seen sees _ none _ _ _) =
    let bad : true ≡ false = sym (seen-again v seen sight saw sees).ending ∙ none in absurd (cc)

-- once last counts were written it is so
still-ended : (u v : LeadView) (from : ℕ) (counts : List ℕ)
    → LooksForEnd u true v
    → StillEnded (with_counts v from counts)
still-ended u v from counts looks =
    let saw = end-seen u v looks in
    let only = reads-only v.seat from counts in
    record {
      joined = subst IsJoined (sym only.phase) saw.joined;
      sight = saw.sight;
      last = only.last ∙ saw.last;
      ending = saw.ending;
      all_in = saw.all_in;
      all_gone = saw.all_gone;
    }

-- what was read before is among what was read, at the same moment
same-counts : (v now w : LeadView) (from next : ℕ) (counts later : List ℕ) (first : LeadView)
    → v ≡ with_counts first from counts
    → ((P : PageCount → Type 0) → All P now.seat.counted → All P v.seat.counted)
    → first.seat.phase ≡ w.seat.phase
    → w ≡ with_counts now next later
    → AreLastCounts w next later
    → (i j : ℕ) → i < length counts → j < length later → from + i ≡ next + j
    → slice_index counts i ≡ slice_index later j
same-counts v now w from next counts later first is_v among phase is_w last i j below there page =
    let end = last.end in
    let P : PageCount → Type 0 =
    λ r. r.phase ≡ w.seat.phase → r.count ≡ count_after w.seat.opening.counts end.moment.views r.page in
    let all : All P (counted_from now.seat next later).counted =
    subst (All P) (ap (λ (l : LeadView). l.seat.counted) is_w) (counted_now w.seat.opening w.seat end.moment end.mine) in
    let before : All P (counted_from first.seat from counts).counted =
    subst (All P) (ap (λ (l : LeadView). l.seat.counted) is_v) (among P (read-of P now.seat next later all)) in
    reads-at P first.seat from counts i before below phase
    ∙ ap (λ p. count_after w.seat.opening.counts end.moment.views p) page
    ∙ sym (last.totals j there)

end-phase : (v w : LeadView) (is_end : Bool) → LooksForEnd v is_end w → w.seat.phase ≡ v.seat.phase
end-phase v w is_end (goes_on sight sees _ _) = (look-keeps v w sight sees).phase
end-phase v w is_end (is_last sight sees _ _ _ _) = (look-keeps v w sight sees).phase
end-phase v w is_end (is_ending sight sees _ _ _) = (look-keeps v w sight sees).phase
end-phase v w is_end (ends sight again seen sees _ _ _ sees_again _) =
    (look-keeps (announced seen) w again sees_again).phase ∙ (look-keeps v seen sight sees).phase

-- what stays of a lead that wrote last counts, however often they are asked for
record Stays (v w : LeadView) : Type 1 where
  pub ended : StillEnded w
  pub phase : w.seat.phase ≡ v.seat.phase
  pub among : (P : PageCount → Type 0) → All P w.seat.counted → All P v.seat.counted

stays-once : (v w : LeadView) (from : ℕ) (old counts : List ℕ) (is_done : Bool)
    → StillEnded v
    → ReadsLast v from old is_done w counts
    → Stays v w
stays-once v w from old counts is_done saw (not_ended looks _ _) =
    let bad : false ≡ true = (found-again v w false saw looks).is in absurd (cc)
stays-once v w from old counts is_done saw (counted now looks _ is_w _ _) =
    let same = (found-again v now true saw looks).counted in
    record {
      ended = subst StillEnded (sym is_w) (still-ended v now from counts looks);
      phase = ap (λ (l : LeadView). l.seat.phase) is_w ∙ (reads-only now.seat from counts).phase
          ∙ end-phase v now true looks;
      among = λ P all. subst (All P) same
          (read-of P now.seat from counts (subst (All P) (ap (λ (l : LeadView). l.seat.counted) is_w) all));
    }

stays-on : (v : LeadView) (n : ℕ) (w : LeadView) → StillEnded v → AsksLast v n w → Stays v w
stays-on v zero w saw is = subst (Stays v) (sym is) (record { ended = saw; phase = refl; among = λ P all. all })
stays-on v (suc n) w saw asks =
    let one = stays-once v asks.0 asks.1 asks.2 asks.3 asks.4 saw asks.5 in
    let more = stays-on asks.0 n w one.ended asks.6 in
    record {
      ended = more.ended;
      phase = more.phase ∙ one.phase;
      among = λ P all. one.among P (more.among P all);
    }

again-read : (first v w x : LeadView) (from next : ℕ) (counts others later : List ℕ) (is_done : Bool)
    → v ≡ with_counts first from counts
    → Stays v w
    → ReadsLast w next others is_done x later
    → (is_done ≡ true) × ((i j : ℕ) → i < length counts → j < length later → from + i ≡ next + j
    → slice_index counts i ≡ slice_index later j)
again-read first v w x from next counts others later is_done is_v stays (not_ended looks _ _) =
    let bad : false ≡ true = (found-again w x false stays.ended looks).is in absurd (cc)
again-read first v w x from next counts others later is_done is_v stays (counted now looks _ is_x last done) =
    let found = found-again w now true stays.ended looks in
    let phase : first.seat.phase ≡ x.seat.phase =
    sym (ap (λ (l : LeadView). l.seat.phase) is_x ∙ (reads-only now.seat next later).phase ∙ end-phase w now true looks
    ∙ stays.phase ∙ ap (λ (l : LeadView). l.seat.phase) is_v ∙ (reads-only first.seat from counts).phase) in (
      done,
      same-counts v now x from next counts later first is_v
          (λ P all. stays.among P (subst (All P) found.counted all)) phase is_x last,
    )

taken-again : (u v w x : LeadView) (n from next : ℕ) (old others counts later : List ℕ) (is_done : Bool)
    → ReadsLast u from old true v counts
    → AsksLast v n w
    → ReadsLast w next others is_done x later
    → (is_done ≡ true) × ((i j : ℕ) → i < length counts → j < length later → from + i ≡ next + j
    → slice_index counts i ≡ slice_index later j)
taken-again u v w x n from next old others counts later is_done (not_ended _ bad _) asks last = absurd (cc)
taken-again u v w x n from next old others counts later is_done (counted first looks _ is_v _ _) asks last =
    again-read first v w x from next counts others later is_done is_v
    (stays-on v n w (subst StillEnded (sym is_v) (still-ended u first from counts looks)) asks) last

pub last_counts_stay : LastCountsStay
last_counts_stay u v w x n from next old others counts later is_done first asks last =
    taken-again u.lead v.lead w.lead x.lead n from next old others counts later is_done first.case asks last.case

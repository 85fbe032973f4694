use Rattle.std.proofs.Common.{◌≡◌, ◌<◌, ◌≤◌, ◌+◌, ◌++◌, ◌∷◌, [], ◌∙◌, ap, sym, length, map, get_or, take, All, List, Vec, Global, arith}
use Rattle.std.proofs.lemmas.List.{length-map, length-take-le, map-append, take_all, take_more}
use Rattle.std.specs.Option.{ForSome}
use Rattle.like_promises.specs.declared.answer.Answer.{Answer}
use Rattle.like_replies.specs.declared.report.section.Section.TheVariants.{Counts, Hot}
use Rattle.like_replies.specs.Rows.{IsShowable, header_row, hot_rows, liker_rows, page_rows, reply_rows}
use Rattle.like_replies.specs.Sections.{AreSections}
use Rattle.like_replies.proofs.Sections.{AreSections-push}
use Rattle.like_replies.proofs.rows.Texts.{All-image, reply_rows-push}
use Rattle.like_replies.proofs.report.sections.report_sections.Goals as goal

-- the answers in a submitter's vector
abbrev answers_in : Vec Answer Global → List Answer
answers_in row = row.items

pub loop-submitter-preserved : goal.loop-submitter-preserved
loop-submitter-preserved c = λ pages writable.
    let n = c.loop-submitter.submitter in
    let row = c.index-replies-submitter.result in
    let rows = c.args.replies.now in
    let there : n < length rows = c.loop-submitter-test.true in
    let is : row ≡ get_or rows n row = c.index-replies-submitter.is in
    let done : List (List Answer) = map answers_in (take n rows) in
    let size : length done ≡ n = simp length-map (length-take-le n rows (omega arith)) in
    let more : map answers_in (take (n + 1) rows) ≡ done ++ answers_in row ∷ [] =
    ap (map answers_in) (take_more rows n row there ∙ ap (λ x. take n rows ++ x ∷ []) (sym is))
    ∙ map-append answers_in (take n rows) (row ∷ []) in
    let shown : All (λ a. IsShowable pages a.reply) c.deref.result.now =
    rw c.deref.ensures.value
    (All-image (All (λ a. IsShowable pages a.reply)) answers_in rows n row writable.shown there is) in
    rw (more, reply_rows-push pages done (answers_in row), size)
    (rw c.deref.ensures.value at
    (c.in_ok-push_answers.ensures pages (header_row ∷ reply_rows pages done)
    (c.loop-submitter.invariant pages writable) shown))

pub returns : goal.returns
returns c = λ pages writable.
    let rows = c.args.replies.now in
    let past : length rows ≤ c.loop-submitter.submitter = c.loop-submitter-test.false in
    let whole : take c.loop-submitter.submitter rows ≡ rows = take_all c.loop-submitter.submitter rows past in
    let replies = header_row ∷ reply_rows pages (map answers_in rows) in
    let counts = replies ++ page_rows pages c.deref-2.result.now in
    let users = counts ++ liker_rows pages 0 c.deref-3.result.now in
    let counted : length c.deref-2.result.now ≡ length pages = rw c.deref-2.ensures.value writable.counted in
    let liked : All (λ last. ForSome last (λ page. page < length pages)) c.deref-3.result.now =
    rw c.deref-3.ensures.value writable.liked in
    let with_replies : AreSections pages replies c.loop-submitter.all.items =
    rw whole at (c.loop-submitter.invariant pages writable) in
    let with_counts : AreSections pages counts c.push-2.new.self.items =
    rw c.in_ok-push-2.ensures.items
    (AreSections-push pages replies c.loop-submitter.all.items (Counts c.deref-2.result) with_replies counted) in
    let with_users : AreSections pages users c.push_users.new.all.items =
    c.in_ok-push_users.ensures pages counts with_counts liked in
    let all : AreSections pages (users ++ hot_rows pages c.deref-4.result.now) c.push-3.new.self.items =
    rw c.in_ok-push-3.ensures.items
    (AreSections-push pages users c.push_users.new.all.items (Hot c.deref-4.result) with_users tt) in
    rw (c.deref-2.ensures.value, c.deref-3.ensures.value, c.deref-4.ensures.value) at all

-- The room says the number and the columns.
use Rattle.std.proofs.Common.{sym, ap, ◌∙◌, ℕ, length}
use Rattle.meaning.specs.Replies.{accepted}
use Rattle.meaning.specs.Calls.{reply}
use Rattle.meaning.specs.Fit.{fit_columns_of}
use Rattle.answers.specs.Said.{said}
use Rattle.answers.specs.Laws.{handed_on, reply-code}
use Rattle.room.specs.Sizes.{fit_asked, fit_room_said}
use Rattle.room.specs.SizeLaws.{told_turned, told_counts}
use Rattle.room.proofs.sizes.fit_columns.Goals as goal

pub returns-in_err-fit_room : goal.returns-in_err-fit_room
returns-in_err-fit_room c =
    let f = fit_asked c.args.settings.now in
    let r = c.in_err-fit_room.field-0.0 in
    ap said (handed_on _ c.from_residual.ensures.1)
    ∙ reply-code r _ (told_turned f r (sym (ap fit_room_said c.in_err-fit_room.was) ∙ c.fit_room.ensures.says))

pub returns : goal.returns
returns c =
    let f = fit_asked c.args.settings.now in
    let told = told_counts f (sym (ap fit_room_said c.in_ok-fit_room.was) ∙ c.fit_room.ensures.says) in
    ap accepted told.column_count ∙ sym (ap (λ (n : ℕ). reply n (length (fit_columns_of f))) told.passes)

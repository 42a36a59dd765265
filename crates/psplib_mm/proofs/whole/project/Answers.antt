use Rattle.std.proofs.Common.{◌≡◌, true, None, sym, ap, ◌∙◌, rules}
use Rattle.mrcpsp.specs.Project.{ProjectData, is_project}
use Rattle.psplib_mm.specs.Contents.{activities_of}
use Rattle.psplib_mm.specs.Scan.{broken_count, broken_amount}
use Rattle.psplib_mm.proofs.Sound.{done, not_none, some_is}
use Rattle.psplib_mm.proofs.Wholes.{AreRead, project_of, count_breaks, amount_breaks, contents_whole, whole_sound, length-jobs, jobs_few}
use Rattle.psplib_mm.proofs.whole.project.Goals as goal

pub returns-in-Some : goal.returns-in-Some
returns-in-Some c =
    let n = c.args.sizes.jobs in
    let r = c.args.sizes.renewable in
    let v = c.args.sizes.nonrenewable in
    let p = c.args.precedence.now in
    let q = c.args.requests.now in
    let s = c.args.availabilities.now in
    let jobs = c.in_ok-jobs.jobs in
    let groups = c.in_ok-groups.groups in
    let read : AreRead n r v p q s jobs groups = record {
      jobs_are = c.in_ok-jobs.ensures;
      groups_are = c.in_ok-groups.ensures;
      enough = c.in_ok-suffice.ensures;
      jobs_placed = c.in_ok-jobs_are_numbered.ensures;
      groups_placed = c.in_ok-groups_are_numbered.ensures;
      follow = c.in_ok-all_follow.ensures;
    } in
    count_breaks n r v p q s jobs groups c.in-Some.name read (sym c.broken_number.ensures ∙ c.in-Some.is)

pub broken_size-requires : goal.broken_size-requires
broken_size-requires c =
    let n = c.args.sizes.jobs in
    let r = c.args.sizes.renewable in
    let v = c.args.sizes.nonrenewable in
    let p = c.args.precedence.now in
    let q = c.args.requests.now in
    let s = c.args.availabilities.now in
    let jobs = c.in_ok-jobs.jobs in
    let groups = c.in_ok-groups.groups in
    let read : AreRead n r v p q s jobs groups = record {
      jobs_are = c.in_ok-jobs.ensures;
      groups_are = c.in_ok-groups.ensures;
      enough = c.in_ok-suffice.ensures;
      jobs_placed = c.in_ok-jobs_are_numbered.ensures;
      groups_placed = c.in_ok-groups_are_numbered.ensures;
      follow = c.in_ok-all_follow.ensures;
    } in
    let none : broken_count jobs r v ≡ None = sym c.broken_number.ensures ∙ c.in_default.is in
    let made : c.deref.result.now ≡ activities_of jobs groups = search rules in
    let few = jobs_few jobs r v none in
    let count = length-jobs n r v p q s jobs groups read in
    rw (made, count) few

pub returns-in-Some-broken_size : goal.returns-in-Some-broken_size
returns-in-Some-broken_size c =
    let n = c.args.sizes.jobs in
    let r = c.args.sizes.renewable in
    let v = c.args.sizes.nonrenewable in
    let p = c.args.precedence.now in
    let q = c.args.requests.now in
    let s = c.args.availabilities.now in
    let jobs = c.in_ok-jobs.jobs in
    let groups = c.in_ok-groups.groups in
    let read : AreRead n r v p q s jobs groups = record {
      jobs_are = c.in_ok-jobs.ensures;
      groups_are = c.in_ok-groups.ensures;
      enough = c.in_ok-suffice.ensures;
      jobs_placed = c.in_ok-jobs_are_numbered.ensures;
      groups_placed = c.in_ok-groups_are_numbered.ensures;
      follow = c.in_ok-all_follow.ensures;
    } in
    let none : broken_count jobs r v ≡ None = sym c.broken_number.ensures ∙ c.in_default.is in
    let given : ProjectData = record { activities = c.deref.result.now; renewable = c.as_slice.result.now; nonrenewable = c.as_slice-2.result.now } in
    let made : given ≡ project_of r v jobs groups s = search rules in
    amount_breaks n r v p q s jobs groups c.in-Some-broken_size.name read none (ap broken_amount (sym made) ∙ sym c.broken_size.ensures ∙ c.in-Some-broken_size.is)

pub unreachable-requires : goal.unreachable-requires
unreachable-requires c =
    let n = c.args.sizes.jobs in
    let r = c.args.sizes.renewable in
    let v = c.args.sizes.nonrenewable in
    let p = c.args.precedence.now in
    let q = c.args.requests.now in
    let s = c.args.availabilities.now in
    let jobs = c.in_ok-jobs.jobs in
    let groups = c.in_ok-groups.groups in
    let read : AreRead n r v p q s jobs groups = record {
      jobs_are = c.in_ok-jobs.ensures;
      groups_are = c.in_ok-groups.ensures;
      enough = c.in_ok-suffice.ensures;
      jobs_placed = c.in_ok-jobs_are_numbered.ensures;
      groups_placed = c.in_ok-groups_are_numbered.ensures;
      follow = c.in_ok-all_follow.ensures;
    } in
    let none : broken_count jobs r v ≡ None = sym c.broken_number.ensures ∙ c.in_default.is in
    let given : ProjectData = record { activities = c.deref.result.now; renewable = c.as_slice.result.now; nonrenewable = c.as_slice-2.result.now } in
    let made : given ≡ project_of r v jobs groups s = search rules in
    let amount : broken_amount (project_of r v jobs groups s) ≡ None = ap broken_amount (sym made) ∙ sym c.broken_size.ensures ∙ c.in_default-broken_size.is in
    let passed : ProjectData = record { activities = c.from.result; renewable = c.in_ok-renewable.renewable; nonrenewable = c.in_ok-nonrenewable.nonrenewable } in
    let same : passed ≡ project_of r v jobs groups s = search rules in
    let sound : is_project passed ≡ true = ap is_project same ∙ whole_sound n r v p q s jobs groups read none amount in
    not_none (is_project passed) passed c.new.result sound c.new.ensures c.in-None.is

pub returns : goal.returns
returns c =
    let n = c.args.sizes.jobs in
    let r = c.args.sizes.renewable in
    let v = c.args.sizes.nonrenewable in
    let p = c.args.precedence.now in
    let q = c.args.requests.now in
    let s = c.args.availabilities.now in
    let jobs = c.in_ok-jobs.jobs in
    let groups = c.in_ok-groups.groups in
    let read : AreRead n r v p q s jobs groups = record {
      jobs_are = c.in_ok-jobs.ensures;
      groups_are = c.in_ok-groups.ensures;
      enough = c.in_ok-suffice.ensures;
      jobs_placed = c.in_ok-jobs_are_numbered.ensures;
      groups_placed = c.in_ok-groups_are_numbered.ensures;
      follow = c.in_ok-all_follow.ensures;
    } in
    let none : broken_count jobs r v ≡ None = sym c.broken_number.ensures ∙ c.in_default.is in
    let given : ProjectData = record { activities = c.deref.result.now; renewable = c.as_slice.result.now; nonrenewable = c.as_slice-2.result.now } in
    let made : given ≡ project_of r v jobs groups s = search rules in
    let amount : broken_amount (project_of r v jobs groups s) ≡ None = ap broken_amount (sym made) ∙ sym c.broken_size.ensures ∙ c.in_default-broken_size.is in
    let passed : ProjectData = record { activities = c.from.result; renewable = c.in_ok-renewable.renewable; nonrenewable = c.in_ok-nonrenewable.nonrenewable } in
    let same : passed ≡ project_of r v jobs groups s = search rules in
    let sound : is_project passed ≡ true = ap is_project same ∙ whole_sound n r v p q s jobs groups read none amount in
    let whole : passed ≡ c.in-Some-new.project = some_is (is_project passed) passed c.in-Some-new.project c.new.result sound c.new.ensures c.in-Some-new.is in
    contents_whole n r v p q s jobs groups read none amount ∙ ap done (sym same ∙ whole ∙ sym c.in_ok-share-in-Some-new.ensures)

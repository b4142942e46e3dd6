use Rattle.std.proofs.Common.{◌+◌, arith}
use Rattle.images.specs.Records.{split_count, reference_count, one_or_two, sample_count}
use Rattle.reader.specs.Writes.{Room}
use Rattle.reader.proofs.Written.{room_left}
use Rattle.reader.proofs.commit.append_sample.Goals as goal

pub append_asking-handle-requires : goal.append_asking-handle-requires
append_asking-handle-requires c =
    let divided = reference_count c.args.plan.split c.args.plan.reference in
    let asked = one_or_two c.args.plan.splat in
    let room : Room c.extract_image_coordinates-array_index.new.arena (divided + asked) =
    room_left _ _ _ (split_count c.args.plan.split) (divided + asked) (sample_count c.args.plan)
    c.extract_image_coordinates-array_index.ensures.appended (omega arith) c.requires in
    room_left _ _ _ divided asked (divided + asked) c.divide_reference-depth_ref.ensures.appended (omega arith) room

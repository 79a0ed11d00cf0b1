-- Laws of a stream's frames for proofs of crates above.
use Rattle.tcp_frames.specs.Laws.{AllFramesAreTaken, CutDoesNotMatter, PiecesContinue}
use Rattle.tcp_frames.proofs.FrameLaws.{continues}
use Rattle.tcp_frames.proofs.RunLaws.{all_taken, frames_kept}

-- however a stream is cut into pieces, the frames are the same
pub cut_does_not_matter : CutDoesNotMatter
cut_does_not_matter = frames_kept

-- once no whole frame is left, all frames of the stream were taken
pub all_frames_are_taken : AllFramesAreTaken
all_frames_are_taken = all_taken

-- with a further piece the frames go on after the frames before
pub pieces_continue : PiecesContinue
pieces_continue = continues

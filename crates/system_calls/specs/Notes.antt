-- The calls that notes say.
use Rattle.system_calls.specs.Call.{Call}
use Rattle.system_calls.specs.Call as call
use Rattle.system_calls.specs.declared.noted.Note.{Note}
use Rattle.system_calls.specs.declared.noted.Note.TheVariants as note

abbrev pub call_of : Note → Call
call_of (note.FillRandom octets answer) = call.fill_random octets.now answer.now
call_of (note.StartClock answer) = call.start_clock answer.now
call_of (note.ReadClock started answer) = call.read_clock started.now answer.now
call_of (note.Bind at answer) = call.bind at.now answer.now
call_of (note.SetReceiveBuffer socket value status) = call.set_receive_buffer socket.now value.now status.now
call_of (note.Connect socket to answer) = call.connect socket.now to.now answer.now
call_of (note.SendTo socket octets to answer) = call.send_to socket.now octets.now to.now answer.now
call_of (note.Send socket octets answer) = call.send socket.now octets.now answer.now
call_of (note.Receive socket buffer answer) = call.receive socket.now buffer.now answer.now
call_of (note.Listen at answer) = call.listen at.now answer.now
call_of (note.Accept listener answer) = call.accept listener.now answer.now
call_of (note.Begin to answer) = call.begin to.now answer.now
call_of (note.SetNoDelay stream answer) = call.set_no_delay stream.now answer.now
call_of (note.Read stream buffer answer) = call.read stream.now buffer.now answer.now
call_of (note.Write stream octets answer) = call.write stream.now octets.now answer.now
call_of (note.MakeReports answer) = call.make_reports answer.now
call_of (note.WatchDatagrams socket token interest answer) =
    call.watch_datagrams socket.now token.now interest.now answer.now
call_of (note.WatchListener listener token interest answer) =
    call.watch_listener listener.now token.now interest.now answer.now
call_of (note.WatchStream stream token interest answer) =
    call.watch_stream stream.now token.now interest.now answer.now
call_of (note.Wait pause answer) = call.wait pause.now answer.now

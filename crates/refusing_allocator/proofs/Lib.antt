mod Handle
mod Countdown

mod Cutting
mod Reading
mod Running
mod Turning
